-- Whole numbers to residues and back: from −499122176 to 499122176 nothing is lost, and each residue comes from one of these. Assumes nothing.
use mathlib.Core.Path.{◌≡◌, refl, ap, ◌∙◌}
use mathlib.Core.Bool.{Bool, true, false}
use Prim.Native.Nat.{ℕ, suc, ◌-◌, ◌<◌, ◌≤◌}
use native.Mathlib.Omega.{arith}
use borrow.Author.Tests.{leb-true, leb-false, le-leb, lt-leb}
use lib.Dec.{leb}
use lib.IntN.{ℤ, pos, negsuc, nat_abs}
use Rattle.sums.specs.Residue.{p}
use Rattle.sums.specs.Signed.{residue_of, signed_by, signed_of}

-- the two cases of the reading
pub signed_low : (r : ℕ) → r ≤ 499122176 → signed_of r ≡ pos r
signed_low r low = rw (le-leb r 499122176 low)

pub signed_high : (r : ℕ) → 499122176 < r → signed_of r ≡ negsuc (p - suc r)
signed_high r high = rw (lt-leb r 499122176 high)

pub residue_below : (s : ℤ) → nat_abs s ≤ 499122176 → residue_of s < p
residue_below (pos n) within = omega arith
residue_below (negsuc n) within = omega arith

pub signed_residue : (s : ℤ) → nat_abs s ≤ 499122176 → signed_of (residue_of s) ≡ s
signed_residue (pos n) within = signed_low n within
signed_residue (negsuc n) within =
    let back : p - suc (p - suc n) ≡ n = omega arith in signed_high (p - suc n) (omega arith) ∙ ap negsuc back

residue_by : (low : Bool) (r : ℕ) → r < p → residue_of (signed_by low r) ≡ r
residue_by true r below = refl
residue_by false r below = omega arith

pub residue_signed : (r : ℕ) → r < p → residue_of (signed_of r) ≡ r
residue_signed r below = residue_by (leb r 499122176) r below

within_by : (low : Bool) (r : ℕ) → leb r 499122176 ≡ low → r < p → nat_abs (signed_by low r) ≤ 499122176
within_by true r is below = leb-true r 499122176 is
within_by false r is below = omega (arith, leb-false r 499122176 is)

pub signed_within : (r : ℕ) → r < p → nat_abs (signed_of r) ≤ 499122176
signed_within r below = within_by (leb r 499122176) r refl below
