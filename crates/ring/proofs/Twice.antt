-- DCT-IV twice is N/2 times the input, and so is DST-IV twice, over any commutative ring with a turn of n = 2N, N being a power of two.
-- The product of two rows of cosines is half of F (i − l) + F (i + l + 1), that of two rows of sines half of F (i − l) − F (i + l + 1),
-- where F t = Σ_{k<N} cs (2t(2k + 1)) is what the sums of `Inverse` have at odd places: A t at the length n is A t at the length N and F t.
-- So F 0 = N, and F t = 0 at any other t below n. Assumes nothing.
use mathlib.Core.Path.{◌≡◌, sym, ◌∙◌, ap, ap₂}
use Prim.Native.Nat.{ℕ, zero, suc, ◌+◌, ◌*◌, ◌-◌, ◌^◌, ◌<◌}
use native.Mathlib.Nat as Nat
use native.Mathlib.Omega.{arith}
use Rattle.ring.proofs.Ring as Ring
use Rattle.ring.proofs.Ring.{Ring}
use Rattle.ring.proofs.Sum.{sum, sum_ext, sum_add, sum_scale, sum_const, sum_even_odd, sum_gathered, sum_diagonal}
use Rattle.ring.proofs.Parity.{Parity, even, odd, parity}
use Rattle.ring.proofs.Stride.{stride, cs_stride}
use Rattle.ring.proofs.Turn.{Turn, cs, sn, cs_zero, cs_product, sn_product, half_of_twice}
use Rattle.ring.proofs.Fourth.{fourth_by, fourth, fourth_sine}
use Rattle.ring.proofs.Inverse.{cosines, cosines_odd, cosines_even}

module _ {C : Type 0} (R : Ring C) where
  open R use {nought as 𝟘, one as 𝟙, add as ◌⊕◌, mul as ◌⊗◌, neg as ⊖◌}

  infixl 65 ◌⊕◌
  infixl 70 ◌⊗◌
  infixl 75 ⊖◌
  -- A t at an odd t, of any length that is not 0
  odd_is_one : (n : ℕ) → 0 < n → (W : Turn R n) (u : ℕ) → cosines R n W (2 * u + 1) ≡ 𝟙
  odd_is_one zero positive W u = absurd (Nat.lt_irrefl 0 positive)
  odd_is_one (suc m) positive W u = cosines_odd R m W u

  module _ (N n : ℕ) (twice : 2 * N ≡ n) (W : Turn R n) where
    abbrev c : ℕ → C
    c = cs R n W

    -- F t
    abbrev F : ℕ → C
    F t = sum R N (λ k. cs R n W (2 * t * (2 * k + 1)))

    F_zero : F 0 ≡ Ring.num R N
    F_zero =
        sum_ext R N (λ k. c (2 * 0 * (2 * k + 1))) (λ k. 𝟙) (λ k l. let none : 2 * 0 * (2 * k + 1) ≡ 0 = omega arith in ap c none ∙ cs_zero R n W)
        ∙ sum_const R N 𝟙 ∙ Ring.mul_one R (Ring.num R N)

    -- the turn of N
    abbrev shorter : Turn R N
    shorter = stride R 2 N n twice W

    -- the even places and the odd ones
    at_both : (t : ℕ) → cosines R n W t ≡ cosines R N shorter t ⊕ F t
    at_both t =
        let both : n ≡ N + N = omega arith in
        ap (λ (z : ℕ). sum R z (λ k. c (2 * k * t))) both ∙ sum_even_odd R N (λ k. c (2 * k * t))
        ∙ ap₂ ◌⊕◌
        (sum_ext R N (λ k. c (2 * (k + k) * t)) (λ k. cs R N shorter (2 * k * t))
        (λ k l. let angle : 2 * (k + k) * t ≡ 2 * (2 * k * t) = omega arith in ap c angle ∙ sym (cs_stride R 2 N n twice W (2 * k * t))))
        (sum_ext R N (λ k. c (2 * suc (k + k) * t)) (λ k. c (2 * t * (2 * k + 1)))
        (λ k l. let angle : 2 * suc (k + k) * t ≡ 2 * t * (2 * k + 1) = omega arith in ap c angle))

    module _ (e : ℕ) (power : N ≡ 2 ^ e) where
      -- both sums A have the same value
      F_none : (t : ℕ) → 0 < t → t < n → F t ≡ 𝟘
      F_none t low high = by (parity t)
        where
          longer : n ≡ 2 ^ suc e
          longer = omega (arith, Nat.two-pow-succ e)

          none : (y : C) → cosines R n W t ≡ y → cosines R N shorter t ≡ y → F t ≡ 𝟘
          none y long short =
              Ring.add_cancel R y (F t) 𝟘 (ap (λ (z : C). z ⊕ F t) (sym short) ∙ sym (at_both t) ∙ long ∙ sym (Ring.add_nought R y))

          by : Parity t → F t ≡ 𝟘
          by (even u q) =
              none 𝟘 (ap (cosines R n W) q ∙ cosines_even R (suc e) n longer W u (omega arith) (omega arith))
              (ap (cosines R N shorter) q ∙ cosines_even R e N power shorter u (omega arith) (omega arith))
          by (odd u q) =
              none 𝟙 (ap (cosines R n W) q ∙ odd_is_one n (omega arith) W u)
              (ap (cosines R N shorter) q ∙ odd_is_one N (omega arith) shorter u)

      -- rows of v, the cosine or the sine, whose products as sums have the second cosine times g
      module _ (v : ℕ → C) (g : C) (product : (a b d : ℕ) → d + b ≡ a → c d ⊕ g ⊗ c (a + b) ≡ v a ⊗ v b ⊕ v a ⊗ v b) where
        -- the weight of x_i in the l-th output, there and back
        abbrev weight : ℕ → ℕ → C
        weight i l = sum R N (λ k. v ((2 * i + 1) * (2 * k + 1)) ⊗ v ((2 * k + 1) * (2 * l + 1)))

        weight_swap : (i l : ℕ) → weight i l ≡ weight l i
        weight_swap i l =
            sum_ext R N (λ k. v ((2 * i + 1) * (2 * k + 1)) ⊗ v ((2 * k + 1) * (2 * l + 1))) (λ k. v ((2 * l + 1) * (2 * k + 1)) ⊗ v ((2 * k + 1) * (2 * i + 1)))
            (λ k b.
            R.mul_comm (v ((2 * i + 1) * (2 * k + 1))) (v ((2 * k + 1) * (2 * l + 1)))
            ∙ ap₂ (λ (a b : ℕ). v a ⊗ v b) (Nat.mul_comm (2 * k + 1) (2 * l + 1)) (Nat.mul_comm (2 * i + 1) (2 * k + 1)))

        -- d is i − l
        weight_twice : (i l d : ℕ) → d + l ≡ i → weight i l ⊕ weight i l ≡ F d ⊕ g ⊗ F (i + l + 1)
        weight_twice i l d h =
            sym (sum_add R N term term)
            ∙ sum_ext R N (λ k. term k ⊕ term k) (λ k. c (2 * d * (2 * k + 1)) ⊕ g ⊗ c (2 * (i + l + 1) * (2 * k + 1))) (λ k b. pair k)
            ∙ sum_add R N (λ k. c (2 * d * (2 * k + 1))) (λ k. g ⊗ c (2 * (i + l + 1) * (2 * k + 1)))
            ∙ ap (λ (y : C). F d ⊕ y) (sum_scale R N g (λ k. c (2 * (i + l + 1) * (2 * k + 1))))
          where
            term : ℕ → C
            term k = v ((2 * i + 1) * (2 * k + 1)) ⊗ v ((2 * k + 1) * (2 * l + 1))

            pair : (k : ℕ) → term k ⊕ term k ≡ c (2 * d * (2 * k + 1)) ⊕ g ⊗ c (2 * (i + l + 1) * (2 * k + 1))
            pair k =
                let less : 2 * d * (2 * k + 1) + (2 * k + 1) * (2 * l + 1) ≡ (2 * i + 1) * (2 * k + 1) = omega (arith, ap (λ (z : ℕ). 4 * k * z) h, h) in
                let more : (2 * i + 1) * (2 * k + 1) + (2 * k + 1) * (2 * l + 1) ≡ 2 * (i + l + 1) * (2 * k + 1) = omega arith in
                sym (product ((2 * i + 1) * (2 * k + 1)) ((2 * k + 1) * (2 * l + 1)) (2 * d * (2 * k + 1)) less)
                ∙ ap (λ (z : ℕ). c (2 * d * (2 * k + 1)) ⊕ g ⊗ c z) more

        -- F (i + l + 1) is nought
        weight_half : (i l d : ℕ) → d + l ≡ i → i < N → weight i l ≡ F d ⊗ W.half
        weight_half i l d h b =
            sym (half_of_twice R n W (F d) (weight i l)
            (sym (weight_twice i l d h ∙ ap (λ (y : C). F d ⊕ g ⊗ y) (F_none (i + l + 1) (omega arith) (omega arith))
            ∙ ap (λ (y : C). F d ⊕ y) (Ring.mul_nought R g) ∙ Ring.add_nought R (F d))))

        weight_apart : (i l : ℕ) → l < i → i < N → weight i l ≡ 𝟘
        weight_apart i l less b =
            weight_half i l (i - l) (omega arith) b ∙ ap (λ (y : C). y ⊗ W.half) (F_none (i - l) (omega arith) (omega arith))
            ∙ Ring.nought_mul R W.half

        rows_twice : (x : ℕ → C) (l : ℕ) → l < N → fourth_by R v N (fourth_by R v N x) l ≡ x l ⊗ (Ring.num R N ⊗ W.half)
        rows_twice x l b =
            sum_gathered R N N x (λ i k. v ((2 * i + 1) * (2 * k + 1))) (λ k. v ((2 * k + 1) * (2 * l + 1)))
            ∙ sum_diagonal R N x weight weight_swap weight_apart l b
            ∙ ap (λ (y : C). x l ⊗ y) (weight_half l l 0 (Nat.zero-add l) b ∙ ap (λ (y : C). y ⊗ W.half) F_zero)

      pub fourth_twice : (x : ℕ → C) (l : ℕ) → l < N
          → fourth R n W N (fourth R n W N x) l ≡ x l ⊗ (Ring.num R N ⊗ W.half)
      fourth_twice =
          rows_twice c 𝟙
          (λ a b d e. ap (λ (y : C). c d ⊕ y) (R.one_mul (c (a + b))) ∙ R.add_comm (c d) (c (a + b)) ∙ cs_product R n W a b d e)

      pub fourth_sine_twice : (x : ℕ → C) (l : ℕ) → l < N
          → fourth_sine R n W N (fourth_sine R n W N x) l ≡ x l ⊗ (Ring.num R N ⊗ W.half)
      fourth_sine_twice =
          rows_twice (sn R n W) (⊖ 𝟙)
          (λ a b d e.
          ap (λ (y : C). c d ⊕ y) (Ring.neg_mul R 𝟙 (c (a + b)) ∙ ap ⊖◌ (R.one_mul (c (a + b)))) ∙ sn_product R n W a b d e)
