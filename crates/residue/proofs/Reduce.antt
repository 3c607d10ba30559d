-- What the arithmetic of residues needs beyond sums: that a product fits, and what half of a residue is. Assumes nothing.
use mathlib.Core.Path.{◌≡◌, ap, sym, ◌∙◌}
use Prim.Native.Nat.{ℕ, ◌+◌, ◌*◌, ◌%◌, ◌/◌, ◌^◌, ◌<◌}
use native.Mathlib.Nat.{add-mul-mod_self_left, mod-eq_of_lt, mul-le-mul_left, le_of_lt}
use native.Mathlib.Omega.{arith}
use Rattle.sums.specs.Residue.{p, half}

-- a u64 holds the product, and room is left for a sum
pub product_below : (a b : ℕ) → a < p → b < p → a * b < 2 ^ 60
product_below a b first second = omega (arith, mul-le-mul_left a (le_of_lt second))

-- what differs from a number by a multiple of p is its residue, if it is below p
pub residue_only : (x r q : ℕ) → r < p → x ≡ r + p * q → r ≡ x % p
residue_only x r q below is = sym (ap (λ (z : ℕ). z % p) is ∙ add-mul-mod_self_left r p q ∙ mod-eq_of_lt below)

-- twice the half is p + 1, so an even number times the half is its own half and a multiple of p
pub half_even : (a : ℕ) → a < p → a % 2 ≡ 0 → a / 2 ≡ a * half % p
half_even a below even = residue_only (a * half) (a / 2) (a / 2) (omega arith) (omega arith)

-- an odd number is treated alike with p added to it
pub half_odd : (a : ℕ) → a < p → (a % 2 ≡ 0 → ⊥) → (a + p) / 2 ≡ a * half % p
half_odd a below odd = residue_only (a * half) ((a + p) / 2) (a / 2) (omega arith) (omega arith)
