-- One reduction for two products, or for a product and a residue, gives what reducing each gives: one product taken away (across_once), both (opposite_once), or one taken
-- away from a residue (taken_once). Where a residue a is taken away, p − a stands for −a. Assumes nothing.
use mathlib.Core.Path.{◌≡◌, sym, ◌∙◌, ap}
use Prim.Native.Nat.{ℕ, ◌+◌, ◌*◌, ◌-◌, ◌%◌, ◌<◌}
use native.Mathlib.Nat as Nat
use native.Mathlib.Omega.{arith}
use Rattle.ring.proofs.Modular.{mul_mod}
use Rattle.sums.specs.Residue.{p, minus_one}
use Rattle.algorithms.specs.Residues.{residue_ops}

module _ (a u b v : ℕ) where
  -- what is added to make −1 times a multiple of p
  opposite : (d : ℕ) → d + b ≡ p → a * u + d * v + p * (b * v) ≡ a * u + minus_one * (b * v) + p * v
  opposite d whole = let product : d * v + b * v ≡ p * v = sym (Nat.add-mul d b v) ∙ ap (λ (z : ℕ). z * v) whole in omega arith

  pub across_once : b < p → (a * u + (p - b) * v) % p ≡ residue_ops.sub (residue_ops.mul a u) (residue_ops.mul b v)
  across_once below =
      sym (Nat.add-mul-mod_self_left (a * u + (p - b) * v) p (b * v))
      ∙ ap (λ (z : ℕ). z % p) (opposite (p - b) (omega arith)) ∙ Nat.add-mul-mod_self_left (a * u + minus_one * (b * v)) p v
      ∙ reduced (a * u) (b * v)
    where
      reduced : (x y : ℕ) → (x + minus_one * y) % p ≡ (x % p + minus_one * (y % p)) % p
      reduced x y =
          sym (Nat.mod-add-mod x p (minus_one * (y % p)) ∙ sym (Nat.add-mod-mod x (minus_one * (y % p)) p)
          ∙ ap (λ (z : ℕ). (x + z) % p) (mul_mod minus_one y p) ∙ Nat.add-mod-mod x (minus_one * y) p)

pub taken_once : (held a u : ℕ) → held < p → a < p → (held + (p - a) * u) % p ≡ residue_ops.sub held (residue_ops.mul a u)
taken_once held a u small below =
    ap (λ (z : ℕ). (z + (p - a) * u) % p) (sym (Nat.mul-one held)) ∙ across_once held 1 a u below
    ∙ ap (λ (z : ℕ). residue_ops.sub z (residue_ops.mul a u)) (ap (λ (z : ℕ). z % p) (Nat.mul-one held) ∙ Nat.mod-eq_of_lt small)

-- a product with p − a for −a
opposite_mul : (a u : ℕ) → a < p → (p - a) * u % p ≡ residue_ops.neg (residue_ops.mul a u)
opposite_mul a u below =
    ap (λ (z : ℕ). z % p) (sym (Nat.zero-add ((p - a) * u))) ∙ taken_once 0 a u (omega arith) below
    ∙ ap (λ (z : ℕ). z % p) (Nat.zero-add (minus_one * (a * u % p)))

pub opposite_once : (a u b v : ℕ) → a < p → b < p
    → ((p - a) * u + (p - b) * v) % p ≡ residue_ops.sub (residue_ops.neg (residue_ops.mul a u)) (residue_ops.mul b v)
opposite_once a u b v first second =
    across_once (p - a) u b v second ∙ ap (λ (z : ℕ). residue_ops.sub z (residue_ops.mul b v)) (opposite_mul a u first)
