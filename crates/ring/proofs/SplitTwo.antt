-- The step of split radix for DCT-II, over any commutative ring with a turn: a transform of 4q entries by one of 2q and two of q.
-- Angles are those of length 4q; a shorter transform has every second or every fourth of them.
-- Two places i, k < 2q as far from the two ends are given by i + suc k ≡ 2q: then 2q + k is as far from the end of x as i is from its start.
-- Outputs: even_output for 2k, after_output for 4n + 1, before_output for 4n + 3; first_output and last_output are the two of them that need one sum. Assumes nothing.
use mathlib.Core.Path.{◌≡◌, sym, ◌∙◌, ap, ap₂}
use mathlib.Core.List.{[], ◌∷◌}
use Prim.Native.Nat.{ℕ, suc, ◌+◌, ◌*◌, ◌-◌, ◌<◌}
use native.Mathlib.Nat as Nat
use native.Mathlib.Omega.{arith}
use Rattle.ring.proofs.Ring as Ring
use Rattle.ring.proofs.Ring.{Ring}
use Rattle.ring.proofs.Solve.{ring, ring_from, var, :0, :1, ◌:+◌, ◌:*◌, :-◌, given}
use Rattle.ring.proofs.Sum.{sum, sum_ext, sum_nought, sum_add, sum_neg, sum_scale, sum_reverse, sum_fold}
use Rattle.ring.proofs.Sign.{sign, sign_zero, sign_suc, sign_even, sign_odd, sign_square}
use Rattle.ring.proofs.Turn.{Turn, cs, sn, cs_add, sn_add, cs_sub, sn_sub, sn_zero, cs_mirror, cs_odd_quarters, cs_quarters_less}

module _ {C : Type 0} (R : Ring C) (q : ℕ) (W : Turn R (4 * q)) where
  open R use {nought as 𝟘, one as 𝟙, add as ◌⊕◌, mul as ◌⊗◌, neg as ⊖◌}

  infixl 65 ◌⊕◌
  infixl 70 ◌⊗◌
  infixl 75 ⊖◌
  abbrev c : ℕ → C
  c = cs R (4 * q) W

  abbrev s : ℕ → C
  s = sn R (4 * q) W

  -- X_k of DCT-II of x, of all 4q entries
  abbrev pub whole : (ℕ → C) → ℕ → C
  whole x k = sum R (4 * q) (λ i. x i ⊗ cs R (4 * q) W (k * (2 * i + 1)))

  -- X_k of DCT-II of y, of n entries: its angles are u of ours
  abbrev pub part : ℕ → ℕ → (ℕ → C) → ℕ → C
  part n u y k = sum R n (λ i. y i ⊗ cs R (4 * q) W (u * (k * (2 * i + 1))))

  -- the range folded in the middle: the cosines of b at two places as far from the ends differ by the sign of b
  folded : (b : ℕ) (x y : ℕ → C) → ((i k : ℕ) → i + suc k ≡ 2 * q → y i ≡ x i ⊕ sign R b ⊗ x (2 * q + k))
      → whole x b ≡ sum R (2 * q) (λ i. y i ⊗ c (b * (2 * i + 1)))
  folded b x y is =
      let twice : 4 * q ≡ 2 * q + 2 * q = omega arith in
      ap (λ (n : ℕ). sum R n (λ i. x i ⊗ c (b * (2 * i + 1)))) twice
      ∙ sym (sum_fold R (2 * q) (λ i. x i ⊗ c (b * (2 * i + 1))) (λ i. y i ⊗ c (b * (2 * i + 1))) pair)
    where
      pair : (i k : ℕ) → i < 2 * q → i + suc k ≡ 2 * q + 2 * q
          → y i ⊗ c (b * (2 * i + 1)) ≡ x i ⊗ c (b * (2 * i + 1)) ⊕ x k ⊗ c (b * (2 * k + 1))
      pair i k l e =
          let place : 2 * q + (2 * q - suc i) ≡ k = omega arith in
          let turns : b * (2 * i + 1) + b * (2 * k + 1) ≡ 2 * (4 * q) * b = omega (arith, ap (λ (z : ℕ). 2 * b * z) e) in
          ap (λ (v : C). v ⊗ c (b * (2 * i + 1))) (is i (2 * q - suc i) (omega arith) ∙ ap (λ (z : ℕ). x i ⊕ sign R b ⊗ x z) place)
          ∙ ring R (x i ∷ x k ∷ sign R b ∷ c (b * (2 * i + 1)) ∷ [])
          ((var 0 :+ var 2 :* var 1) :* var 3)
          (var 0 :* var 3 :+ var 1 :* (var 2 :* var 3))
          tt
          ∙ ap (λ (v : C). x i ⊗ c (b * (2 * i + 1)) ⊕ x k ⊗ v)
          (sym (cs_mirror R (4 * q) W (b * (2 * i + 1)) (b * (2 * k + 1)) b turns))

  pub even_output : (x h : ℕ → C) → ((i k : ℕ) → i + suc k ≡ 2 * q → h i ≡ x i ⊕ x (2 * q + k))
      → (k : ℕ) → whole x (2 * k) ≡ part (2 * q) 2 h k
  even_output x h is k =
      folded (2 * k) x h
      (λ i j e. is i j e
      ∙ ap (λ (v : C). x i ⊕ v) (sym (ap (λ (v : C). v ⊗ x (2 * q + j)) (sign_even R k) ∙ R.one_mul (x (2 * q + j)))))
      ∙ sum_ext R (2 * q) (λ i. h i ⊗ c (2 * k * (2 * i + 1))) (λ i. h i ⊗ c (2 * (k * (2 * i + 1))))
      (λ i l. ap (λ (a : ℕ). h i ⊗ c a) (Nat.mul_assoc 2 k (2 * i + 1)))

  -- the odd outputs: y and z are the inputs of the two transforms of q entries, from the differences d
  module _ (x d y z : ℕ → C)
      (differences : (i k : ℕ) → i + suc k ≡ 2 * q → d i ≡ x i ⊕ ⊖ x (2 * q + k))
      (along : (i k : ℕ) → i < q → i + suc k ≡ 2 * q → y i ≡ d i ⊗ c (2 * i + 1) ⊕ d k ⊗ s (2 * i + 1))
      (across : (i k r : ℕ) → i + suc k ≡ 2 * q → i + suc r ≡ q
      → z r ≡ sign R i ⊗ (d k ⊗ c (2 * i + 1) ⊕ ⊖ (d i ⊗ s (2 * i + 1)))) where
    -- as far from the end of the 2q differences
    mirror : ℕ → ℕ
    mirror i = 2 * q - suc i

    mirror_is : (i : ℕ) → i < q → i + suc (mirror i) ≡ 2 * q
    unfolding mirror
    mirror_is i l = omega arith

    -- the input of the sines, and their sum at n
    turned : ℕ → C
    turned i = d (mirror i) ⊗ c (2 * i + 1) ⊕ ⊖ (d i ⊗ s (2 * i + 1))

    abbrev sines : ℕ → C
    sines n = sum R q (λ i. turned i ⊗ s (4 * (n * (2 * i + 1))))

    -- folded twice, at an odd number 2u + 1
    twice_folded : (u : ℕ) (f : ℕ → C)
        → ((i : ℕ) → i < q
        → f i ≡ d i ⊗ c ((2 * u + 1) * (2 * i + 1)) ⊕ d (mirror i) ⊗ (sign R u ⊗ s ((2 * u + 1) * (2 * i + 1))))
        → whole x (2 * u + 1) ≡ sum R q f
    twice_folded u f is =
        let twice : 2 * q ≡ q + q = omega arith in
        folded (2 * u + 1) x d
        (λ i k e. differences i k e
        ∙ ap (λ (v : C). x i ⊕ v)
        (sym (ap (λ (v : C). v ⊗ x (2 * q + k)) (sign_odd R u) ∙ Ring.neg_mul R 𝟙 (x (2 * q + k)) ∙ ap ⊖◌ (R.one_mul (x (2 * q + k))))))
        ∙ ap (λ (n : ℕ). sum R n (λ i. d i ⊗ c ((2 * u + 1) * (2 * i + 1)))) twice
        ∙ sym (sum_fold R q (λ i. d i ⊗ c ((2 * u + 1) * (2 * i + 1))) f pair)
      where
        pair : (i k : ℕ) → i < q → i + suc k ≡ q + q
            → f i ≡ d i ⊗ c ((2 * u + 1) * (2 * i + 1)) ⊕ d k ⊗ c ((2 * u + 1) * (2 * k + 1))
        pair i k l e =
            let place : mirror i ≡ k = omega (arith, mirror_is i l) in
            let quarters : (2 * u + 1) * (2 * i + 1) + (2 * u + 1) * (2 * k + 1) ≡ 4 * q * (2 * u + 1) =
            omega (arith, ap (λ (a : ℕ). 2 * (2 * u + 1) * a) e) in
            is i l
            ∙ ap₂ (λ (a : ℕ) (v : C). d i ⊗ c ((2 * u + 1) * (2 * i + 1)) ⊕ d a ⊗ v) place
            (sym (cs_quarters_less R (4 * q) W ((2 * u + 1) * (2 * i + 1)) ((2 * u + 1) * (2 * k + 1)) u quarters))

    -- the sines, by the cosines of the second input read backwards
    sines_are : (n m : ℕ) → n + m ≡ q → sines n ≡ sign R m ⊗ part q 4 z m
    unfolding turned
    sines_are n m e =
        sum_reverse R q (λ r. sign R m ⊗ (z r ⊗ c (4 * (m * (2 * r + 1))))) (λ i. turned i ⊗ s (4 * (n * (2 * i + 1)))) term
        ∙ sum_scale R q (sign R m) (λ r. z r ⊗ c (4 * (m * (2 * r + 1))))
      where
        term : (i r : ℕ) → i + suc r ≡ q
            → turned i ⊗ s (4 * (n * (2 * i + 1))) ≡ sign R m ⊗ (z r ⊗ c (4 * (m * (2 * r + 1))))
        term i r h =
            let turns : 4 * (m * (2 * i + 1)) + 4 * (m * (2 * r + 1)) ≡ 2 * (4 * q) * m = omega (arith, ap (λ (a : ℕ). 8 * m * a) h) in
            let quarters : 4 * (n * (2 * i + 1)) + 4 * (m * (2 * i + 1)) ≡ 4 * q * (2 * i + 1) =
            omega (arith, ap (λ (a : ℕ). 4 * (2 * i + 1) * a) e) in
            ring_from R (turned i ∷ s (4 * (n * (2 * i + 1))) ∷ sign R m ∷ sign R i ∷ [])
            (given (:- (var 0 :* var 1)) (var 2 :* var 2) :1 (sign_square R m)
            ∷ given (:- (var 0 :* var 1 :* var 2 :* var 2)) (var 3 :* var 3) :1 (sign_square R i) ∷ [])
            (var 0 :* var 1)
            (var 2 :* (var 3 :* var 0 :* (var 2 :* (var 3 :* var 1))))
            tt
            ∙ ap₂ (λ (u v : C). sign R m ⊗ (u ⊗ v)) (sym (across i (mirror i) r (mirror_is i (omega arith)) h))
            (ap (λ (v : C). sign R m ⊗ v) (sym (cs_quarters_less R (4 * q) W (4 * (n * (2 * i + 1))) (4 * (m * (2 * i + 1))) i quarters))
            ∙ sym (cs_mirror R (4 * q) W (4 * (m * (2 * i + 1))) (4 * (m * (2 * r + 1))) m turns))

    -- one of the two sums with the other: at 4n + 1, and at 4n − 1
    after : (n : ℕ) → whole x (4 * n + 1) ≡ part q 4 y n ⊕ sines n
    unfolding turned
    after n =
        let number : 4 * n + 1 ≡ 2 * (2 * n) + 1 = omega arith in
        ap (whole x) number
        ∙ twice_folded (2 * n) (λ i. y i ⊗ c (4 * (n * (2 * i + 1))) ⊕ turned i ⊗ s (4 * (n * (2 * i + 1)))) term
        ∙ sum_add R q (λ i. y i ⊗ c (4 * (n * (2 * i + 1)))) (λ i. turned i ⊗ s (4 * (n * (2 * i + 1))))
      where
        term : (i : ℕ) → i < q
            → y i ⊗ c (4 * (n * (2 * i + 1))) ⊕ turned i ⊗ s (4 * (n * (2 * i + 1)))
            ≡ d i ⊗ c ((2 * (2 * n) + 1) * (2 * i + 1)) ⊕ d (mirror i) ⊗ (sign R (2 * n) ⊗ s ((2 * (2 * n) + 1) * (2 * i + 1)))
        term i l =
            let angle : (2 * (2 * n) + 1) * (2 * i + 1) ≡ 4 * (n * (2 * i + 1)) + (2 * i + 1) = omega arith in
            ap (λ (v : C). v ⊗ c (4 * (n * (2 * i + 1))) ⊕ turned i ⊗ s (4 * (n * (2 * i + 1)))) (along i (mirror i) l (mirror_is i l))
            ∙ ring R (d i ∷ d (mirror i) ∷ c (2 * i + 1) ∷ s (2 * i + 1) ∷ c (4 * (n * (2 * i + 1))) ∷ s (4 * (n * (2 * i + 1))) ∷ [])
            ((var 0 :* var 2 :+ var 1 :* var 3) :* var 4 :+ (var 1 :* var 2 :+ :- (var 0 :* var 3)) :* var 5)
            (var 0 :* (var 4 :* var 2 :+ :- (var 5 :* var 3)) :+ var 1 :* (:1 :* (var 5 :* var 2 :+ var 4 :* var 3)))
            tt
            ∙ ap₂ (λ (u v : C). d i ⊗ u ⊕ d (mirror i) ⊗ v)
            (sym (ap c angle ∙ cs_add R (4 * q) W (4 * (n * (2 * i + 1))) (2 * i + 1)))
            (ap₂ ◌⊗◌ (sym (sign_even R n)) (sym (ap s angle ∙ sn_add R (4 * q) W (4 * (n * (2 * i + 1))) (2 * i + 1))))

    before : (n : ℕ) → whole x (4 * n + 3) ≡ part q 4 y (suc n) ⊕ ⊖ sines (suc n)
    unfolding turned
    before n =
        let number : 4 * n + 3 ≡ 2 * (2 * n + 1) + 1 = omega arith in
        ap (whole x) number
        ∙ twice_folded (2 * n + 1) (λ i. y i ⊗ c (4 * (suc n * (2 * i + 1))) ⊕ ⊖ (turned i ⊗ s (4 * (suc n * (2 * i + 1))))) term
        ∙ sum_add R q (λ i. y i ⊗ c (4 * (suc n * (2 * i + 1)))) (λ i. ⊖ (turned i ⊗ s (4 * (suc n * (2 * i + 1)))))
        ∙ ap (λ (v : C). part q 4 y (suc n) ⊕ v) (sum_neg R q (λ i. turned i ⊗ s (4 * (suc n * (2 * i + 1)))))
      where
        term : (i : ℕ) → i < q
            → y i ⊗ c (4 * (suc n * (2 * i + 1))) ⊕ ⊖ (turned i ⊗ s (4 * (suc n * (2 * i + 1))))
            ≡ d i ⊗ c ((2 * (2 * n + 1) + 1) * (2 * i + 1)) ⊕ d (mirror i) ⊗ (sign R (2 * n + 1) ⊗ s ((2 * (2 * n + 1) + 1) * (2 * i + 1)))
        term i l =
            let angle : (2 * (2 * n + 1) + 1) * (2 * i + 1) + (2 * i + 1) ≡ 4 * (suc n * (2 * i + 1)) = omega arith in
            ap (λ (v : C). v ⊗ c (4 * (suc n * (2 * i + 1))) ⊕ ⊖ (turned i ⊗ s (4 * (suc n * (2 * i + 1))))) (along i (mirror i) l (mirror_is i l))
            ∙ ring R (d i ∷ d (mirror i) ∷ c (2 * i + 1) ∷ s (2 * i + 1) ∷ c (4 * (suc n * (2 * i + 1))) ∷ s (4 * (suc n * (2 * i + 1))) ∷ [])
            ((var 0 :* var 2 :+ var 1 :* var 3) :* var 4 :+ :- ((var 1 :* var 2 :+ :- (var 0 :* var 3)) :* var 5))
            (var 0 :* (var 4 :* var 2 :+ var 5 :* var 3) :+ var 1 :* (:- :1 :* (var 5 :* var 2 :+ :- (var 4 :* var 3))))
            tt
            ∙ ap₂ (λ (u v : C). d i ⊗ u ⊕ d (mirror i) ⊗ v)
            (ap (λ (a : ℕ). c a ⊗ c (2 * i + 1) ⊕ s a ⊗ s (2 * i + 1)) (sym angle) ∙ cs_sub R (4 * q) W ((2 * (2 * n + 1) + 1) * (2 * i + 1)) (2 * i + 1))
            (ap₂ ◌⊗◌ (sym (sign_odd R n))
            (ap (λ (a : ℕ). s a ⊗ c (2 * i + 1) ⊕ ⊖ (c a ⊗ s (2 * i + 1))) (sym angle)
            ∙ sn_sub R (4 * q) W ((2 * (2 * n + 1) + 1) * (2 * i + 1)) (2 * i + 1)))

    -- the sine part as the merge has it
    negated : (n m : ℕ) → n + m ≡ q → sines n ≡ ⊖ (sign R (suc (n + q)) ⊗ part q 4 z m)
    negated n m e =
        let number : n + q ≡ 2 * n + m = omega arith in
        sines_are n m e
        ∙ ring R (sign R m ∷ part q 4 z m ∷ []) (var 0 :* var 1) (:- (:- (:1 :* var 0) :* var 1)) tt
        ∙ ap (λ (v : C). ⊖ (v ⊗ part q 4 z m))
        (sym (sign_suc R (n + q)
        ∙ ap ⊖◌ (ap (sign R) number ∙ Ring.pow_add R (⊖ 𝟙) (2 * n) m ∙ ap (λ (v : C). v ⊗ sign R m) (sign_even R n))))

    pub after_output : (n m : ℕ) → n + m ≡ q → whole x (4 * n + 1) ≡ part q 4 y n ⊕ ⊖ (sign R (suc (n + q)) ⊗ part q 4 z m)
    after_output n m e = after n ∙ ap (λ (v : C). part q 4 y n ⊕ v) (negated n m e)

    pub before_output : (n m : ℕ) → suc n + m ≡ q
        → whole x (4 * n + 3) ≡ part q 4 y (suc n) ⊕ sign R (suc (suc n + q)) ⊗ part q 4 z m
    before_output n m e =
        before n
        ∙ ap (λ (v : C). part q 4 y (suc n) ⊕ v) (ap ⊖◌ (negated (suc n) m e) ∙ Ring.neg_neg R (sign R (suc (suc n + q)) ⊗ part q 4 z m))

    -- at the angle 0 there are no sines
    pub first_output : whole x 1 ≡ part q 4 y 0
    first_output =
        after 0
        ∙ ap (λ (v : C). part q 4 y 0 ⊕ v)
        (sum_nought R q (λ i. turned i ⊗ s (4 * (0 * (2 * i + 1))))
        (λ i l.
        let none : 4 * (0 * (2 * i + 1)) ≡ 0 = omega arith in
        ap (λ (v : C). turned i ⊗ v) (ap s none ∙ sn_zero R (4 * q) W) ∙ Ring.mul_nought R (turned i)))
        ∙ Ring.add_nought R (part q 4 y 0)

    -- at an odd number of quarters there are no cosines
    pub last_output : (n : ℕ) → suc n ≡ q → whole x (4 * n + 3) ≡ ⊖ part q 4 z 0
    last_output n e =
        before n
        ∙ ap₂ (λ (u v : C). u ⊕ ⊖ v)
        (sum_nought R q (λ i. y i ⊗ c (4 * (suc n * (2 * i + 1))))
        (λ i l.
        let quarters : 4 * (suc n * (2 * i + 1)) ≡ 4 * q * (2 * i + 1) = omega (arith, ap (λ (a : ℕ). 4 * (2 * i + 1) * a) e) in
        ap (λ (v : C). y i ⊗ v) (ap c quarters ∙ cs_odd_quarters R (4 * q) W i) ∙ Ring.mul_nought R (y i)))
        (sines_are (suc n) 0 (omega arith) ∙ ap (λ (v : C). v ⊗ part q 4 z 0) (sign_zero R))
        ∙ ring R (part q 4 z 0 ∷ []) (:0 :+ :- (:1 :* var 0)) (:- var 0) tt
