-- Type 3 undoes type 2, over any commutative ring with a turn, at any length that is a power of two:
-- DCT-III of DCT-II is n/2 times the input. The length is n = suc m, so that the terms after the first are m.
-- By the sums A t = Σ_{k<n} cs (2kt): 1 at an odd t (k and n − k cancel), 0 at an even t below 2n but for t = 0 (the length halves). Assumes nothing.
use mathlib.Core.Path.{◌≡◌, refl, sym, ◌∙◌, ap, ap₂}
use mathlib.Core.List.{[], ◌∷◌}
use Prim.Native.Nat.{ℕ, zero, suc, ◌+◌, ◌*◌, ◌-◌, ◌^◌, ◌<◌}
use native.Mathlib.Nat as Nat
use native.Mathlib.Omega.{arith}
use Rattle.ring.proofs.Ring as Ring
use Rattle.ring.proofs.Ring.{Ring}
use Rattle.ring.proofs.Solve.{ring, ring_from, var, :0, :1, ◌:+◌, ◌:*◌, :-◌, given}
use Rattle.ring.proofs.Sum.{sum, sum_ext, sum_nought, sum_add, sum_neg, sum_scale_right, sum_const, sum_halves, sum_reverse, sum_first, sum_gathered, sum_diagonal}
use Rattle.ring.proofs.Parity.{Parity, even, odd, parity}
use Rattle.ring.proofs.Sign.{sign, sign_even, sign_odd}
use Rattle.ring.proofs.Stride.{stride, cs_stride}
use Rattle.ring.proofs.Turn.{Turn, cs, cs_zero, cs_turns, cs_mirror, cs_product, own_negative, half_of_twice}

module _ {C : Type 0} (R : Ring C) where
  open R use {nought as 𝟘, one as 𝟙, add as ◌⊕◌, mul as ◌⊗◌, neg as ⊖◌}

  infixl 65 ◌⊕◌
  infixl 70 ◌⊗◌
  infixl 75 ⊖◌
  -- A t
  abbrev pub cosines : (n : ℕ) → Turn R n → ℕ → C
  cosines n W t = sum R n (λ k. cs R n W (2 * k * t))

  pub cosines_zero : (n : ℕ) (W : Turn R n) → cosines n W 0 ≡ Ring.num R n
  cosines_zero n W =
      sum_ext R n (λ k. cs R n W (2 * k * 0)) (λ k. 𝟙) (λ k l. ap (cs R n W) (Nat.mul-zero (2 * k)) ∙ cs_zero R n W)
      ∙ sum_const R n 𝟙 ∙ Ring.mul_one R (Ring.num R n)

  pub cosines_odd : (m : ℕ) (W : Turn R (suc m)) (u : ℕ) → cosines (suc m) W (2 * u + 1) ≡ 𝟙
  cosines_odd m W u =
      sum_first R m (λ k. c (2 * k * (2 * u + 1)))
      ∙ ap₂ ◌⊕◌ (ap c first ∙ cs_zero R (suc m) W) (own_negative R (suc m) W (sum R m rest) rest_opposite)
      ∙ Ring.add_nought R 𝟙
    where
      c : ℕ → C
      c = cs R (suc m) W

      rest : ℕ → C
      rest k = cs R (suc m) W (2 * suc k * (2 * u + 1))

      first : 2 * 0 * (2 * u + 1) ≡ 0
      first = omega arith

      opposite : (i k : ℕ) → i + suc k ≡ m → rest i ≡ ⊖ rest k
      opposite i k e =
          let h : 2 * suc k * (2 * u + 1) + 2 * suc i * (2 * u + 1) ≡ 2 * suc m * (2 * u + 1) =
          omega (arith, ap (λ (z : ℕ). 4 * u * z) e) in
          cs_mirror R (suc m) W (2 * suc k * (2 * u + 1)) (2 * suc i * (2 * u + 1)) (2 * u + 1) h
          ∙ ap (λ (x : C). x ⊗ rest k) (sign_odd R u) ∙ Ring.neg_mul R 𝟙 (rest k) ∙ ap ⊖◌ (R.one_mul (rest k))

      rest_opposite : sum R m rest ≡ ⊖ sum R m rest
      rest_opposite = sum_reverse R m (λ k. ⊖ rest k) rest opposite ∙ sum_neg R m rest

  -- the length halves until t is odd
  pub cosines_even : (e n : ℕ) → n ≡ 2 ^ e → (W : Turn R n) (u : ℕ) → 0 < u → u < n → cosines n W (2 * u) ≡ 𝟘
  cosines_even zero n h W u low high = absurd (Nat.lt_irrefl 0 (omega (arith, h ∙ Nat.pow-zero 2)))
  cosines_even (suc e) n h W u low high =
      ap (λ (z : ℕ). sum R z (λ k. cs R n W (2 * k * (2 * u)))) twice ∙ sum_halves R (2 ^ e) (λ k. cs R n W (2 * k * (2 * u)))
      ∙ by (parity u) (cosines_even e (2 ^ e) refl (stride R 2 (2 ^ e) n whole W))
    where
      whole : 2 * 2 ^ e ≡ n
      whole = sym (h ∙ Nat.two-pow-succ e ∙ sym (Nat.two-mul (2 ^ e)))

      twice : n ≡ 2 ^ e + 2 ^ e
      twice = h ∙ Nat.two-pow-succ e

      c : ℕ → C
      c k = cs R n W (2 * k * (2 * u))

      upper : (k : ℕ) → c (2 ^ e + k) ≡ sign R u ⊗ c k
      upper k =
          let a : 2 * (2 ^ e + k) * (2 * u) ≡ 2 * k * (2 * u) + 2 * n * u = omega (arith, ap (λ (z : ℕ). 2 * u * z) twice) in
          ap (cs R n W) a ∙ cs_turns R n W (2 * k * (2 * u)) u

      -- at an even u the two halves agree, and each is the sum at half the length
      halved : (v : ℕ) → u ≡ 2 * v → (k : ℕ) → cs R (2 ^ e) (stride R 2 (2 ^ e) n whole W) (2 * k * (2 * v)) ≡ c k
      halved v q k =
          let a : 2 * (2 * k * (2 * v)) ≡ 2 * k * (2 * u) = omega (arith, ap (λ (z : ℕ). 4 * k * z) q) in
          cs_stride R 2 (2 ^ e) n whole W (2 * k * (2 * v)) ∙ ap (cs R n W) a

      by : Parity u
          → ((v : ℕ) → 0 < v → v < 2 ^ e → cosines (2 ^ e) (stride R 2 (2 ^ e) n whole W) (2 * v) ≡ 𝟘)
          → sum R (2 ^ e) (λ k. c k ⊕ c (2 ^ e + k)) ≡ 𝟘
      by (odd v q) shorter =
          sum_nought R (2 ^ e) (λ k. c k ⊕ c (2 ^ e + k))
          (λ k l.
          ap (λ (x : C). c k ⊕ x) (upper k ∙ ap (λ (x : C). x ⊗ c k) (ap (sign R) q ∙ sign_odd R v))
          ∙ ring R (c k ∷ []) (var 0 :+ :- :1 :* var 0) :0 tt)
      by (even v q) shorter =
          let none : sum R (2 ^ e) c ≡ 𝟘 =
          sym (sum_ext R (2 ^ e) (λ k. cs R (2 ^ e) (stride R 2 (2 ^ e) n whole W) (2 * k * (2 * v))) c (λ k l. halved v q k))
          ∙ shorter v (omega arith) (omega (arith, twice)) in
          sum_add R (2 ^ e) c (λ k. c (2 ^ e + k))
          ∙ ap₂ ◌⊕◌ none
          (sum_ext R (2 ^ e) (λ k. c (2 ^ e + k)) c
          (λ k l. upper k ∙ ap (λ (x : C). x ⊗ c k) (ap (sign R) q ∙ sign_even R v) ∙ R.one_mul (c k))
          ∙ none)
          ∙ R.nought_add 𝟘

-- the length is n = suc m = 2^e
module _ {C : Type 0} (R : Ring C) (m : ℕ) (W : Turn R (suc m)) where
  open R use {nought as 𝟘, one as 𝟙, add as ◌⊕◌, mul as ◌⊗◌, neg as ⊖◌}

  infixl 65 ◌⊕◌
  infixl 70 ◌⊗◌
  infixl 75 ⊖◌
  abbrev c : ℕ → C
  c = cs R (suc m) W

  abbrev A : ℕ → C
  A = cosines R (suc m) W

  -- X_k of DCT-II and of DCT-III
  abbrev pub dct2_at : (ℕ → C) → ℕ → C
  dct2_at x k = sum R (suc m) (λ i. x i ⊗ cs R (suc m) W (k * (2 * i + 1)))

  abbrev pub dct3_at : (ℕ → C) → ℕ → C
  dct3_at x k = x 0 ⊗ W.half ⊕ sum R m (λ i. x (suc i) ⊗ cs R (suc m) W (suc i * (2 * k + 1)))

  -- the weight of x_i in the l-th output, there and back
  abbrev weight : ℕ → ℕ → C
  weight i l = W.half ⊕ sum R m (λ k. c (suc k * (2 * i + 1)) ⊗ c (suc k * (2 * l + 1)))

  -- the terms of A after the first
  rest : (t : ℕ) → sum R m (λ k. c (2 * suc k * t)) ≡ A t ⊕ ⊖ 𝟙
  rest t =
      let first : 2 * 0 * t ≡ 0 = omega arith in
      ring_from R (sum R m (λ k. c (2 * suc k * t)) ∷ A t ∷ [])
      (given (:- :1) (var 1) (:1 :+ var 0)
      (sum_first R m (λ k. c (2 * k * t)) ∙ ap (λ (x : C). x ⊕ sum R m (λ k. c (2 * suc k * t))) (ap c first ∙ cs_zero R (suc m) W))
      ∷ [])
      (var 0)
      (var 1 :+ :- :1)
      tt

  -- d is i − l
  weight_twice : (i l d : ℕ) → d + l ≡ i → weight i l ⊕ weight i l ≡ A (i + l + 1) ⊕ A d ⊕ ⊖ 𝟙
  weight_twice i l d h =
      ring_from R (W.half ∷ sum R m product ∷ A (i + l + 1) ∷ A d ∷ [])
      (given :1 (var 0 :+ var 0) :1 W.half_is
      ∷ given :1 (var 1 :+ var 1) (var 2 :+ :- :1 :+ (var 3 :+ :- :1)) products ∷ [])
      (var 0 :+ var 1 :+ (var 0 :+ var 1))
      (var 2 :+ var 3 :+ :- :1)
      tt
    where
      product : ℕ → C
      product k = c (suc k * (2 * i + 1)) ⊗ c (suc k * (2 * l + 1))

      pair : (k : ℕ) → product k ⊕ product k ≡ c (2 * suc k * (i + l + 1)) ⊕ c (2 * suc k * d)
      pair k =
          let less : 2 * suc k * d + suc k * (2 * l + 1) ≡ suc k * (2 * i + 1) = omega (arith, ap (λ (z : ℕ). 2 * k * z) h, h) in
          let more : suc k * (2 * i + 1) + suc k * (2 * l + 1) ≡ 2 * suc k * (i + l + 1) = omega arith in
          sym (cs_product R (suc m) W (suc k * (2 * i + 1)) (suc k * (2 * l + 1)) (2 * suc k * d) less)
          ∙ ap (λ (z : ℕ). c z ⊕ c (2 * suc k * d)) more

      products : sum R m product ⊕ sum R m product ≡ (A (i + l + 1) ⊕ ⊖ 𝟙) ⊕ (A d ⊕ ⊖ 𝟙)
      products =
          sym (sum_add R m product product)
          ∙ sum_ext R m (λ k. product k ⊕ product k) (λ k. c (2 * suc k * (i + l + 1)) ⊕ c (2 * suc k * d)) (λ k b. pair k)
          ∙ sum_add R m (λ k. c (2 * suc k * (i + l + 1))) (λ k. c (2 * suc k * d))
          ∙ ap₂ ◌⊕◌ (rest (i + l + 1)) (rest d)

  module _ (e : ℕ) (power : suc m ≡ 2 ^ e) where
    weight_same : (l : ℕ) → weight l l ≡ Ring.num R (suc m) ⊗ W.half
    weight_same l =
        let h : l + l + 1 ≡ 2 * l + 1 = omega arith in
        sym (half_of_twice R (suc m) W (Ring.num R (suc m)) (weight l l)
        (sym (weight_twice l l 0 (Nat.zero-add l)
        ∙ ap₂ (λ (x y : C). x ⊕ y ⊕ ⊖ 𝟙) (ap A h ∙ cosines_odd R m W l) (cosines_zero R (suc m) W)
        ∙ ring R (Ring.num R (suc m) ∷ []) (:1 :+ var 0 :+ :- :1) (var 0) tt)))

    weight_apart : (i l d : ℕ) → suc d + l ≡ i → i < suc m → weight i l ≡ 𝟘
    weight_apart i l d h below =
        sym (half_of_twice R (suc m) W 𝟘 (weight i l) (sym (weight_twice i l (suc d) h ∙ by (parity (suc d))))) ∙ Ring.nought_mul R W.half
      where
        none : A (i + l + 1) ⊕ A (suc d) ≡ 𝟙 → A (i + l + 1) ⊕ A (suc d) ⊕ ⊖ 𝟙 ≡ 𝟘
        none q = ap (λ (x : C). x ⊕ ⊖ 𝟙) q ∙ Ring.add_neg R 𝟙

        by : Parity (suc d) → A (i + l + 1) ⊕ A (suc d) ⊕ ⊖ 𝟙 ≡ 𝟘
        by (even u q) =
            let other : i + l + 1 ≡ 2 * (l + u) + 1 = omega arith in
            none (ap₂ ◌⊕◌ (ap A other ∙ cosines_odd R m W (l + u)) (ap A q ∙ cosines_even R e (suc m) power W u (omega arith) (omega arith))
            ∙ Ring.add_nought R 𝟙)
        by (odd u q) =
            let other : i + l + 1 ≡ 2 * (l + u + 1) = omega arith in
            none (ap₂ ◌⊕◌ (ap A other ∙ cosines_even R e (suc m) power W (l + u + 1) (omega arith) (omega arith)) (ap A q ∙ cosines_odd R m W u)
            ∙ R.nought_add 𝟙)

    weight_swap : (i l : ℕ) → weight i l ≡ weight l i
    weight_swap i l =
        ap (λ (x : C). W.half ⊕ x)
        (sum_ext R m (λ k. c (suc k * (2 * i + 1)) ⊗ c (suc k * (2 * l + 1))) (λ k. c (suc k * (2 * l + 1)) ⊗ c (suc k * (2 * i + 1)))
        (λ k b. R.mul_comm (c (suc k * (2 * i + 1))) (c (suc k * (2 * l + 1)))))

    -- the double sum, gathered by the entries of the input
    gathered : (x : ℕ → C) (l : ℕ) → dct3_at (dct2_at x) l ≡ sum R (suc m) (λ i. x i ⊗ weight i l)
    gathered x l =
        ap₂ ◌⊕◌ (sym (sum_scale_right R (suc m) W.half (λ i. x i ⊗ c (0 * (2 * i + 1)))) ∙ sum_ext R (suc m) _ _ (λ i b. first i))
        (sum_gathered R m (suc m) x (λ i k. c (suc k * (2 * i + 1))) (λ k. c (suc k * (2 * l + 1))))
        ∙ sym (sum_add R (suc m) (λ i. x i ⊗ W.half) (λ i. x i ⊗ after i))
        ∙ sum_ext R (suc m) (λ i. x i ⊗ W.half ⊕ x i ⊗ after i) (λ i. x i ⊗ weight i l) (λ i b. sym (Ring.mul_add R (x i) W.half (after i)))
      where
        after : ℕ → C
        after i = sum R m (λ k. c (suc k * (2 * i + 1)) ⊗ c (suc k * (2 * l + 1)))

        first : (i : ℕ) → x i ⊗ c (0 * (2 * i + 1)) ⊗ W.half ≡ x i ⊗ W.half
        first i = ap (λ (y : C). x i ⊗ y ⊗ W.half) (ap c (Nat.zero-mul (2 * i + 1)) ∙ cs_zero R (suc m) W) ∙ ap (λ (y : C). y ⊗ W.half) (Ring.mul_one R (x i))

    pub dct3_of_dct2 : (x : ℕ → C) (l : ℕ) → l < suc m → dct3_at (dct2_at x) l ≡ x l ⊗ (Ring.num R (suc m) ⊗ W.half)
    dct3_of_dct2 x l b =
        gathered x l ∙ sum_diagonal R (suc m) x weight weight_swap (λ i k less h. weight_apart i k (i - suc k) (omega arith) h) l b
        ∙ ap (λ (y : C). x l ⊗ y) (weight_same l)
