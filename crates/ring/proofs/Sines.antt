-- The sine sums by the cosine sums, over any commutative ring with a turn: DST-II is DCT-II of the entries with every other sign changed, read backwards;
-- DST-III is DCT-III of the entries read backwards, with every other sign changed, and so is DST-IV by DCT-IV. Assumes nothing.
use mathlib.Core.Path.{◌≡◌, sym, ◌∙◌, ap, ap₂}
use mathlib.Core.List.{[], ◌∷◌}
use Prim.Native.Nat.{ℕ, suc, ◌+◌, ◌*◌, ◌<◌}
use native.Mathlib.Omega.{arith}
use Rattle.ring.proofs.Ring.{Ring}
use Rattle.ring.proofs.Solve.{ring, ring_from, var, :1, ◌:+◌, ◌:*◌, given}
use Rattle.ring.proofs.Sum.{sum, sum_ext, sum_scale, sum_reverse}
use Rattle.ring.proofs.Sign.{sign, sign_square}
use Rattle.ring.proofs.Turn.{Turn, cs, sn, sn_odd_quarters, cs_quarters_less}
use Rattle.ring.proofs.Third.{third, third_first}

module _ {C : Type 0} (R : Ring C) (n : ℕ) (W : Turn R n) where
  open R use {add as ◌⊕◌, mul as ◌⊗◌}

  infixl 65 ◌⊕◌
  infixl 70 ◌⊗◌
  abbrev c : ℕ → C
  c = cs R n W

  abbrev s : ℕ → C
  s = sn R n W

  pub second_sines : (x y : ℕ → C) → ((i : ℕ) → i < n → y i ≡ sign R i ⊗ x i) → (k l : ℕ) → k + suc l ≡ n
      → sum R n (λ i. y i ⊗ c (l * (2 * i + 1))) ≡ sum R n (λ i. x i ⊗ s ((k + 1) * (2 * i + 1)))
  second_sines x y is k l e =
      sum_ext R n (λ i. y i ⊗ c (l * (2 * i + 1))) (λ i. x i ⊗ s ((k + 1) * (2 * i + 1)))
      (λ i b.
      let quarters : (k + 1) * (2 * i + 1) + l * (2 * i + 1) ≡ n * (2 * i + 1) = omega (arith, ap (λ (z : ℕ). 2 * i * z) e, e) in
      ap₂ ◌⊗◌ (is i b) (cs_quarters_less R n W ((k + 1) * (2 * i + 1)) (l * (2 * i + 1)) i quarters)
      ∙ ring_from R (x i ∷ s ((k + 1) * (2 * i + 1)) ∷ sign R i ∷ []) (given (var 0 :* var 1) (var 2 :* var 2) :1 (sign_square R i) ∷ [])
      (var 2 :* var 0 :* (var 2 :* var 1))
      (var 0 :* var 1)
      tt)

  -- the length is n = suc m
  pub third_sines : (m : ℕ) → suc m ≡ n → (x y : ℕ → C) → ((i j : ℕ) → i + suc j ≡ suc m → y i ≡ x j) → (k : ℕ)
      → sign R k ⊗ third R n W 1 (suc m) y k ≡ sum R m (λ i. x i ⊗ s ((i + 1) * (2 * k + 1))) ⊕ x m ⊗ W.half ⊗ s (n * (2 * k + 1))
  third_sines m whole x y is k =
      ap (λ (z : C). sign R k ⊗ z)
      (third_first R n W 1 m y k
      ∙ ap₂ (λ (a b : C). a ⊗ W.half ⊕ b) (is 0 m (omega arith))
      (sum_reverse R m (λ j. sign R k ⊗ term j) (λ i. y (suc i) ⊗ c (1 * (suc i * (2 * k + 1)))) pair ∙ sum_scale R m (sign R k) term))
      ∙ ring_from R (sign R k ∷ x m ⊗ W.half ∷ sum R m term ∷ []) (given (var 2) (var 0 :* var 0) :1 (sign_square R k) ∷ [])
      (var 0 :* (var 1 :+ var 0 :* var 2))
      (var 2 :+ var 1 :* var 0)
      tt
      ∙ ap (λ (z : C). sum R m term ⊕ x m ⊗ W.half ⊗ z) (sym (sn_odd_quarters R n W k))
    where
      term : ℕ → C
      term i = x i ⊗ s ((i + 1) * (2 * k + 1))

      pair : (i j : ℕ) → i + suc j ≡ m → y (suc i) ⊗ c (1 * (suc i * (2 * k + 1))) ≡ sign R k ⊗ term j
      pair i j e =
          let quarters : (j + 1) * (2 * k + 1) + 1 * (suc i * (2 * k + 1)) ≡ n * (2 * k + 1) =
          omega (arith, ap (λ (z : ℕ). 2 * k * z) e, ap (λ (z : ℕ). 2 * k * z) whole, e, whole) in
          ap₂ ◌⊗◌ (is (suc i) j (omega arith)) (cs_quarters_less R n W ((j + 1) * (2 * k + 1)) (1 * (suc i * (2 * k + 1))) k quarters)
          ∙ ring R (x j ∷ s ((j + 1) * (2 * k + 1)) ∷ sign R k ∷ []) (var 0 :* (var 2 :* var 1)) (var 2 :* (var 0 :* var 1)) tt

  -- the length is m, and n twice as much
  pub fourth_sines : (m : ℕ) → 2 * m ≡ n → (x y : ℕ → C) → ((i j : ℕ) → i + suc j ≡ m → y i ≡ x j) → (k : ℕ)
      → sign R k ⊗ sum R m (λ i. y i ⊗ c ((2 * i + 1) * (2 * k + 1))) ≡ sum R m (λ i. x i ⊗ s ((2 * i + 1) * (2 * k + 1)))
  fourth_sines m twice x y is k =
      sym (sum_scale R m (sign R k) (λ i. y i ⊗ c ((2 * i + 1) * (2 * k + 1))))
      ∙ sum_reverse R m (λ i. x i ⊗ s ((2 * i + 1) * (2 * k + 1))) (λ i. sign R k ⊗ (y i ⊗ c ((2 * i + 1) * (2 * k + 1)))) pair
    where
      pair : (i j : ℕ) → i + suc j ≡ m → sign R k ⊗ (y i ⊗ c ((2 * i + 1) * (2 * k + 1))) ≡ x j ⊗ s ((2 * j + 1) * (2 * k + 1))
      pair i j e =
          let quarters : (2 * j + 1) * (2 * k + 1) + (2 * i + 1) * (2 * k + 1) ≡ n * (2 * k + 1) =
          omega (arith, ap (λ (z : ℕ). 4 * k * z) e, ap (λ (z : ℕ). 2 * k * z) twice, e, twice) in
          ap₂ (λ (a b : C). sign R k ⊗ (a ⊗ b)) (is i j e) (cs_quarters_less R n W ((2 * j + 1) * (2 * k + 1)) ((2 * i + 1) * (2 * k + 1)) k quarters)
          ∙ ring_from R (x j ∷ s ((2 * j + 1) * (2 * k + 1)) ∷ sign R k ∷ []) (given (var 0 :* var 1) (var 2 :* var 2) :1 (sign_square R k) ∷ [])
          (var 2 :* (var 0 :* (var 2 :* var 1)))
          (var 0 :* var 1)
          tt
