-- DCT-III over any commutative ring with a turn: the sum of the entries at the multiples of 2k + 1, less half of the first entry.
-- third_first: half of the first entry, and the sum of the others. Assumes nothing.
use mathlib.Core.Path.{◌≡◌, ◌∙◌, ap, ap₂}
use mathlib.Core.List.{[], ◌∷◌}
use Prim.Native.Nat.{ℕ, suc, ◌+◌, ◌*◌, ◌<◌}
use native.Mathlib.Omega.{arith}
use Rattle.ring.proofs.Ring.{Ring}
use Rattle.ring.proofs.Solve.{ring_from, var, :1, ◌:+◌, ◌:*◌, :-◌, given}
use Rattle.ring.proofs.Sum.{sum, sum_ext, sum_first}
use Rattle.ring.proofs.Turn.{Turn, cs, cs_zero}

module _ {C : Type 0} (R : Ring C) (n : ℕ) (W : Turn R n) where
  open R use {add as ◌⊕◌, mul as ◌⊗◌, neg as ⊖◌}

  infixl 65 ◌⊕◌
  infixl 70 ◌⊗◌
  infixl 75 ⊖◌
  -- X_k of DCT-III of m entries, where s units of the turn are one of the length m: half of the first entry is taken off
  abbrev pub third : (s m : ℕ) → (ℕ → C) → ℕ → C
  third s m x k = sum R m (λ i. x i ⊗ cs R n W (s * (i * (2 * k + 1)))) ⊕ ⊖ (x 0 ⊗ W.half)

  pub third_ext : (s m : ℕ) → 0 < m → (x y : ℕ → C) → ((i : ℕ) → i < m → x i ≡ y i) → (k : ℕ) → third s m x k ≡ third s m y k
  third_ext s m positive x y same k =
      ap₂ (λ (a b : C). a ⊕ ⊖ (b ⊗ W.half))
      (sum_ext R m (λ i. x i ⊗ cs R n W (s * (i * (2 * k + 1)))) (λ i. y i ⊗ cs R n W (s * (i * (2 * k + 1))))
      (λ i l. ap (λ (a : C). a ⊗ cs R n W (s * (i * (2 * k + 1)))) (same i l)))
      (same 0 positive)

  pub third_first : (s m : ℕ) (x : ℕ → C) (k : ℕ)
      → third s (suc m) x k ≡ x 0 ⊗ W.half ⊕ sum R m (λ i. x (suc i) ⊗ cs R n W (s * (suc i * (2 * k + 1))))
  third_first s m x k =
      let none : s * (0 * (2 * k + 1)) ≡ 0 = omega arith in
      ap (λ (y : C). y ⊕ ⊖ (x 0 ⊗ W.half))
      (sum_first R m (λ i. x i ⊗ cs R n W (s * (i * (2 * k + 1))))
      ∙ ap (λ (y : C). x 0 ⊗ y ⊕ rest) (ap (cs R n W) none ∙ cs_zero R n W))
      ∙ ring_from R (x 0 ∷ W.half ∷ rest ∷ []) (given (:- var 0) (var 1 :+ var 1) :1 W.half_is ∷ [])
      (var 0 :* :1 :+ var 2 :+ :- (var 0 :* var 1))
      (var 0 :* var 1 :+ var 2)
      tt
    where
      rest : C
      rest = sum R m (λ i. x (suc i) ⊗ cs R n W (s * (suc i * (2 * k + 1))))
