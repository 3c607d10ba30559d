-- Signs over any commutative ring: (−1)^m, which is 1 at an even m and −1 at an odd one. Assumes nothing.
use mathlib.Core.Path.{◌≡◌, sym, ◌∙◌, ap}
use mathlib.Core.List.{[], ◌∷◌}
use Prim.Native.Nat.{ℕ, suc, ◌+◌, ◌*◌}
use native.Mathlib.Omega.{arith}
use Rattle.ring.proofs.Ring as Ring
use Rattle.ring.proofs.Ring.{Ring}
use Rattle.ring.proofs.Solve.{ring_from, var, :1, ◌:*◌, :-◌, given}

module _ {C : Type 0} (R : Ring C) where
  open R use {nought as 𝟘, one as 𝟙, add as ◌⊕◌, mul as ◌⊗◌, neg as ⊖◌}

  infixl 65 ◌⊕◌
  infixl 70 ◌⊗◌
  infixl 75 ⊖◌
  abbrev pub sign : ℕ → C
  sign m = Ring.pow R (⊖ 𝟙) m

  pub sign_zero : sign 0 ≡ 𝟙
  sign_zero = Ring.pow_zero R (⊖ 𝟙)

  pub sign_suc : (m : ℕ) → sign (suc m) ≡ ⊖ sign m
  sign_suc m = Ring.pow_suc R (⊖ 𝟙) m ∙ Ring.mul_neg R (sign m) 𝟙 ∙ ap ⊖◌ (Ring.mul_one R (sign m))

  pub sign_even : (t : ℕ) → sign (2 * t) ≡ 𝟙
  sign_even t =
      Ring.pow_mul R (⊖ 𝟙) 2 t
      ∙ ap (λ (x : C). Ring.pow R x t) (sign_suc 1 ∙ ap ⊖◌ (sign_suc 0 ∙ ap ⊖◌ sign_zero) ∙ Ring.neg_neg R 𝟙)
      ∙ Ring.pow_of_one R t

  pub sign_odd : (t : ℕ) → sign (2 * t + 1) ≡ ⊖ 𝟙
  sign_odd t = let h : 2 * t + 1 ≡ suc (2 * t) = omega arith in ap sign h ∙ sign_suc (2 * t) ∙ ap ⊖◌ (sign_even t)

  -- a sign is its own inverse
  pub sign_square : (m : ℕ) → sign m ⊗ sign m ≡ 𝟙
  sign_square m =
      let h : m + m ≡ 2 * m = omega arith in
      sym (Ring.pow_add R (⊖ 𝟙) m m) ∙ ap sign h ∙ sign_even m

  -- two numbers with an odd sum have opposite signs
  pub sign_opposite : (k l t : ℕ) → k + l ≡ 2 * t + 1 → sign l ≡ ⊖ sign k
  sign_opposite k l t e =
      ring_from R (sign k ∷ sign l ∷ [])
      (given (:- var 1) (var 0 :* var 0) :1 (sign_square k)
      ∷ given (var 0) (var 0 :* var 1) (:- :1) (sym (Ring.pow_add R (⊖ 𝟙) k l) ∙ ap sign e ∙ sign_odd t) ∷ [])
      (var 1)
      (:- var 0)
      tt
