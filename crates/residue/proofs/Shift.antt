-- A signed number moved up and a residue moved down by p, as the machine computes them: numbers are read back from bits. Assumes nothing.
use mathlib.Core.Path.{◌≡◌, refl, ◌∙◌}
use mathlib.Core.Bool.{true, false}
use Prim.Native.Nat.{ℕ, suc, ◌+◌, ◌-◌, ◌^◌, ◌<◌, ◌≤◌}
use native.Mathlib.Omega.{arith}
use borrow.Author.Tests.{ltb-true, lt-ltb, le-ltb}
use lib.IntN.{ℤ, pos, negsuc, nat_abs, ◌+ℤ◌, ◌-ℤ◌}
use lib.Signed.{lt_z, nat_abs-le}
use mir.Syntax.{w16, w32}
use mir.Val.{Fits, SFits, to_z, of_z}
use mir.Facts.{to_z-of_z, to_z_pos, sfits_widen}
use Rattle.sums.specs.Residue.{p}
use Rattle.sums.specs.Signed.{residue_of}
use Rattle.sums.proofs.Signed.{residue_below}

-- a number moved up by q
abbrev pub moved : ℤ → ℕ → ℕ
moved (pos n) q = n + q
moved (negsuc n) q = q - suc n

-- q reaches over every negative sample, and the sum stays an i32. What is added is a variable, so that only `moved_is` speaks of p
pub record Reach (q : ℕ) : Type 0 where
  pub low : 2 ^ 15 ≤ q
  pub high : q ≤ 2 ^ 30

up : (s : ℤ) (q : ℕ) → SFits w16 s → Reach q → s +ℤ pos q ≡ pos (moved s q)
up (pos n) q fits reach = refl
up (negsuc n) q fits reach = let within : suc n ≤ q = omega arith in rw (le-ltb q (suc n) within)

moved_below : (s : ℤ) (q : ℕ) → SFits w16 s → Reach q → moved s q < 2 ^ 31
moved_below (pos n) q fits reach = omega arith
moved_below (negsuc n) q fits reach = omega arith

raised_to : (s : ℤ) → lt_z s (pos 0) ≡ true → moved s p ≡ residue_of s
raised_to (pos n) negative = absurd (let no : ⊥ = omega (arith, ltb-true n 0 negative) in no)
raised_to (negsuc n) negative = refl

stays : (s : ℤ) → lt_z s (pos 0) ≡ false → s ≡ pos (residue_of s)
stays (pos n) positive = refl
stays (negsuc n) positive = cc

module _ (s : ℤ) (fits : SFits w16 s) where
  pub widened : SFits w32 (to_z w16 (of_z w16 s))
  widened = rw (to_z-of_z fits) (sfits_widen tt fits)

  -- a sample's residue fits an i32, and so a u32
  pub sample_below : residue_of s < p
  sample_below = residue_below s (let within : nat_abs s ≤ 2 ^ 15 = nat_abs-le s fits.sfits in omega arith)

  -- the sum of a sample and q
  module _ (q : ℕ) (reach : Reach q) where
    raised : to_z w32 (of_z w32 (to_z w16 (of_z w16 s))) +ℤ pos q ≡ pos (moved s q)
    raised = rw (to_z-of_z widened, to_z-of_z fits) (up s q fits reach)

    pub raised_fits : SFits w32 (to_z w32 (of_z w32 (to_z w16 (of_z w16 s))) +ℤ pos q)
    raised_fits = rw raised (record { sfits = moved_below s q fits reach })

    pub raised_read : to_z w32 (of_z w32 (to_z w32 (of_z w32 (to_z w16 (of_z w16 s))) +ℤ pos q)) ≡ pos (moved s q)
    raised_read = to_z-of_z raised_fits ∙ raised

    pub raised_unsigned : Fits w32 (moved s q)
    raised_unsigned = record { fits = omega (arith, moved_below s q fits reach) }

  -- moved up by p a negative sample is its residue
  pub moved_is : lt_z (to_z w16 (of_z w16 s)) (pos 0) ≡ true → moved s p ≡ residue_of s
  moved_is negative = raised_to s (rw (to_z-of_z fits) at negative)

  -- a sample that is not negative is its own residue
  module _ (positive : lt_z (to_z w16 (of_z w16 s)) (pos 0) ≡ false) where
    pub kept : to_z w16 (of_z w16 s) ≡ pos (residue_of s)
    kept = to_z-of_z fits ∙ stays s (rw (to_z-of_z fits) at positive)

-- the difference of a residue and p
module _ (r : ℕ) (below : r < p) where
  pub lowered : to_z w32 r -ℤ pos p ≡ negsuc (p - suc r)
  lowered =
      let positive : to_z w32 r ≡ pos r = to_z_pos w32 (omega arith) in
      rw (positive, lt-ltb r p below)

  pub lowered_fits : SFits w32 (to_z w32 r -ℤ pos p)
  lowered_fits = rw lowered (record { sfits = omega arith })

  pub lowered_read : to_z w32 (of_z w32 (to_z w32 r -ℤ pos p)) ≡ negsuc (p - suc r)
  lowered_read = to_z-of_z lowered_fits ∙ lowered
