-- The odd entries of 4q in a DCT-III, over any commutative ring with a turn; q is suc r here. Their sum at the angle b is the rotation by b
-- (odds_rotated, odds_mirrored) of `along` and `across`, which gather them by their multiples of 4b and are each a DCT-III of q entries:
-- of the sums of neighbours (along_is), and of their differences read backwards (across_is). Assumes nothing.
use mathlib.Core.Path.{◌≡◌, sym, ◌∙◌, ap, ap₂}
use mathlib.Core.List.{[], ◌∷◌}
use Prim.Native.Nat.{ℕ, suc, ◌+◌, ◌*◌, ◌<◌}
use native.Mathlib.Omega.{arith}
use Rattle.ring.proofs.Ring as Ring
use Rattle.ring.proofs.Ring.{Ring}
use Rattle.ring.proofs.Solve.{ring, ring_from, var, :0, :1, ◌:+◌, ◌:*◌, :-◌, given}
use Rattle.ring.proofs.Sum.{sum, sum_ext, sum_add, sum_neg, sum_scale, sum_scale_right, sum_suc, sum_first, sum_reverse, sum_even_odd}
use Rattle.ring.proofs.Sign.{sign, sign_even, sign_square}
use Rattle.ring.proofs.Turn.{Turn, cs, sn, sn_zero, cs_add, cs_sub, cs_mirror, sn_mirror, cs_quarter, sn_quarter, cs_zero, cs_odd_quarters, sn_odd_quarters, cs_quarters_less, half_of_twice}
use Rattle.ring.proofs.Third.{third, third_first}

module _ {C : Type 0} (R : Ring C) (r : ℕ) (W : Turn R (4 * suc r)) (x : ℕ → C) where
  open R use {add as ◌⊕◌, mul as ◌⊗◌, neg as ⊖◌}

  infixl 65 ◌⊕◌
  infixl 70 ◌⊗◌
  infixl 75 ⊖◌
  abbrev q : ℕ
  q = suc r

  abbrev n : ℕ
  n = 4 * suc r

  abbrev c : ℕ → C
  c = cs R n W

  abbrev s : ℕ → C
  s = sn R n W

  -- the sum of the odd entries at the angle b
  abbrev pub odds : ℕ → C
  odds b = sum R (2 * q) (λ i. x (2 * i + 1) ⊗ c ((2 * i + 1) * b))

  -- the odd entries by the multiples of 4b that their angles are next to
  abbrev along_at : ℕ → ℕ → C
  along_at b i = x (4 * i + 1) ⊗ c (4 * (i * b)) ⊕ x (4 * i + 3) ⊗ c (4 * (suc i * b))

  abbrev pub along : ℕ → C
  along b = sum R q (along_at b)

  abbrev across_at : ℕ → ℕ → C
  across_at b i = ⊖ (x (4 * i + 1) ⊗ s (4 * (i * b))) ⊕ x (4 * i + 3) ⊗ s (4 * (suc i * b))

  abbrev pub across : ℕ → C
  across b = sum R q (across_at b)

  pub odds_rotated : (b : ℕ) → odds b ≡ along b ⊗ c b ⊕ across b ⊗ s b
  odds_rotated b =
      let twice : 2 * q ≡ q + q = omega arith in
      ap (λ (m : ℕ). sum R m term) twice ∙ sum_even_odd R q term ∙ sym (sum_add R q (λ i. term (i + i)) (λ i. term (suc (i + i))))
      ∙ sum_ext R q (λ i. term (i + i) ⊕ term (suc (i + i))) (λ i. along_at b i ⊗ c b ⊕ across_at b i ⊗ s b) (λ i l. pair i)
      ∙ sum_add R q (λ i. along_at b i ⊗ c b) (λ i. across_at b i ⊗ s b)
      ∙ ap₂ ◌⊕◌ (sum_scale_right R q (c b) (along_at b)) (sum_scale_right R q (s b) (across_at b))
    where
      term : ℕ → C
      term i = x (2 * i + 1) ⊗ c ((2 * i + 1) * b)

      -- 4i + 1 is one more than 4i, and 4i + 3 one less than 4(i + 1)
      one_more : (i : ℕ) → term (i + i) ≡ x (4 * i + 1) ⊗ (c (4 * (i * b)) ⊗ c b ⊕ ⊖ (s (4 * (i * b)) ⊗ s b))
      one_more i =
          let place : 2 * (i + i) + 1 ≡ 4 * i + 1 = omega arith in
          let angle : (2 * (i + i) + 1) * b ≡ 4 * (i * b) + b = omega arith in
          ap₂ (λ (j a : ℕ). x j ⊗ c a) place angle ∙ ap (λ (y : C). x (4 * i + 1) ⊗ y) (cs_add R n W (4 * (i * b)) b)

      one_less : (i : ℕ) → term (suc (i + i)) ≡ x (4 * i + 3) ⊗ (c (4 * (suc i * b)) ⊗ c b ⊕ s (4 * (suc i * b)) ⊗ s b)
      one_less i =
          let place : 2 * suc (i + i) + 1 ≡ 4 * i + 3 = omega arith in
          let angle : (4 * i + 3) * b + b ≡ 4 * (suc i * b) = omega arith in
          ap (λ (j : ℕ). x j ⊗ c (j * b)) place
          ∙ ap (λ (y : C). x (4 * i + 3) ⊗ y) (sym (cs_sub R n W ((4 * i + 3) * b) b) ∙ ap (λ (a : ℕ). c a ⊗ c b ⊕ s a ⊗ s b) angle)

      pair : (i : ℕ) → term (i + i) ⊕ term (suc (i + i)) ≡ along_at b i ⊗ c b ⊕ across_at b i ⊗ s b
      pair i =
          ap₂ ◌⊕◌ (one_more i) (one_less i)
          ∙ ring R
          (x (4 * i + 1) ∷ x (4 * i + 3) ∷ c (4 * (i * b)) ∷ s (4 * (i * b)) ∷ c (4 * (suc i * b)) ∷ s (4 * (suc i * b)) ∷ c b ∷ s b ∷ [])
          (var 0 :* (var 2 :* var 6 :+ :- (var 3 :* var 7)) :+ var 1 :* (var 4 :* var 6 :+ var 5 :* var 7))
          ((var 0 :* var 2 :+ var 1 :* var 4) :* var 6 :+ (:- (var 0 :* var 3) :+ var 1 :* var 5) :* var 7)
          tt

  -- at d, a quarter less b, the rotation is the other way round
  pub odds_mirrored : (b d : ℕ) → b + d ≡ n → odds d ≡ along b ⊗ s b ⊕ ⊖ (across b ⊗ c b)
  odds_mirrored b d e =
      odds_rotated d
      ∙ ap₂ ◌⊕◌ (ap₂ ◌⊗◌ along_same (cs_quarter R n W b d e)) (ap₂ ◌⊗◌ across_opposite (sn_quarter R n W b d e))
      ∙ ap (λ (y : C). along b ⊗ s b ⊕ y) (Ring.neg_mul R (across b) (c b))
    where
      turns : (i : ℕ) → 4 * (i * b) + 4 * (i * d) ≡ 2 * n * (2 * i)
      turns i = omega (arith, ap (λ (z : ℕ). 4 * i * z) e)

      c_same : (i : ℕ) → c (4 * (i * d)) ≡ c (4 * (i * b))
      c_same i =
          cs_mirror R n W (4 * (i * b)) (4 * (i * d)) (2 * i) (turns i) ∙ ap (λ (y : C). y ⊗ c (4 * (i * b))) (sign_even R i)
          ∙ R.one_mul (c (4 * (i * b)))

      s_opposite : (i : ℕ) → s (4 * (i * d)) ≡ ⊖ s (4 * (i * b))
      s_opposite i =
          sn_mirror R n W (4 * (i * b)) (4 * (i * d)) (2 * i) (turns i) ∙ ap (λ (y : C). ⊖ (y ⊗ s (4 * (i * b)))) (sign_even R i)
          ∙ ap ⊖◌ (R.one_mul (s (4 * (i * b))))

      along_same : along d ≡ along b
      along_same =
          sum_ext R q (along_at d) (along_at b)
          (λ i l. ap₂ (λ (y z : C). x (4 * i + 1) ⊗ y ⊕ x (4 * i + 3) ⊗ z) (c_same i) (c_same (suc i)))

      across_opposite : across d ≡ ⊖ across b
      across_opposite =
          sum_ext R q (across_at d) (λ i. ⊖ across_at b i)
          (λ i l.
          ap₂ (λ (y z : C). ⊖ (x (4 * i + 1) ⊗ y) ⊕ x (4 * i + 3) ⊗ z) (s_opposite i) (s_opposite (suc i))
          ∙ ring R (x (4 * i + 1) ∷ x (4 * i + 3) ∷ s (4 * (i * b)) ∷ s (4 * (suc i * b)) ∷ [])
          (:- (var 0 :* :- var 2) :+ var 1 :* :- var 3)
          (:- (:- (var 0 :* var 2) :+ var 1 :* var 3))
          tt)
          ∙ sum_neg R q (across_at b)

  -- a sum of pairs, each second one moved next to the first one after it
  staggered : (f g : ℕ → C) → sum R q (λ i. f i ⊕ g i) ≡ f 0 ⊕ sum R r (λ i. f (suc i) ⊕ g i) ⊕ g r
  staggered f g =
      sum_add R q f g ∙ ap₂ ◌⊕◌ (sum_first R r f) (sum_suc R r g)
      ∙ ring R (f 0 ∷ sum R r (λ i. f (suc i)) ∷ sum R r g ∷ g r ∷ [])
      (var 0 :+ var 1 :+ (var 2 :+ var 3))
      (var 0 :+ (var 1 :+ var 2) :+ var 3)
      tt
      ∙ ap (λ (y : C). f 0 ⊕ y ⊕ g r) (sym (sum_add R r (λ i. f (suc i)) g))

  -- the multiples of an odd angle that are none and all
  none : (k : ℕ) → 4 * (0 * (2 * k + 1)) ≡ 0
  none k = omega arith

  all : (k : ℕ) → 4 * (suc r * (2 * k + 1)) ≡ n * (2 * k + 1)
  all k = omega arith

  pub along_is : (u : ℕ → C) → u 0 ≡ x 1 ⊕ x 1 → ((i : ℕ) → i < r → u (suc i) ≡ x (4 * i + 3) ⊕ x (4 * i + 5))
      → (k : ℕ) → along (2 * k + 1) ≡ third R n W 4 q u k
  along_is u first rest k =
      staggered (λ i. x (4 * i + 1) ⊗ c (4 * (i * (2 * k + 1)))) (λ i. x (4 * i + 3) ⊗ c (4 * (suc i * (2 * k + 1))))
      ∙ ap₂ (λ (y z : C). x 1 ⊗ y ⊕ middle ⊕ x (4 * r + 3) ⊗ z) (ap c (none k) ∙ cs_zero R n W) (ap c (all k) ∙ cs_odd_quarters R n W k)
      ∙ ring R (x 1 ∷ middle ∷ x (4 * r + 3) ∷ []) (var 0 :* :1 :+ var 1 :+ var 2 :* :0) (var 0 :+ var 1) tt
      ∙ ap₂ ◌⊕◌ (sym (half_of_twice R n W (u 0) (x 1) first)) (sum_ext R r _ _ (λ i l. pair i l))
      ∙ sym (third_first R n W 4 r u k)
    where
      middle : C
      middle = sum R r (λ i. x (4 * suc i + 1) ⊗ c (4 * (suc i * (2 * k + 1))) ⊕ x (4 * i + 3) ⊗ c (4 * (suc i * (2 * k + 1))))

      pair : (i : ℕ) → i < r
          → x (4 * suc i + 1) ⊗ c (4 * (suc i * (2 * k + 1))) ⊕ x (4 * i + 3) ⊗ c (4 * (suc i * (2 * k + 1))) ≡ u (suc i) ⊗ c (4 * (suc i * (2 * k + 1)))
      pair i l =
          let next : 4 * suc i + 1 ≡ 4 * i + 5 = omega arith in
          ap (λ (j : ℕ). x j ⊗ c (4 * (suc i * (2 * k + 1))) ⊕ x (4 * i + 3) ⊗ c (4 * (suc i * (2 * k + 1)))) next
          ∙ ring R (x (4 * i + 5) ∷ x (4 * i + 3) ∷ c (4 * (suc i * (2 * k + 1))) ∷ []) (var 0 :* var 2 :+ var 1 :* var 2) ((var 1 :+ var 0) :* var 2) tt
          ∙ ap (λ (y : C). y ⊗ c (4 * (suc i * (2 * k + 1)))) (sym (rest i l))

  pub across_is : (v : ℕ → C) → v 0 ≡ x (4 * r + 3) ⊕ x (4 * r + 3)
      → ((m i : ℕ) → m + suc i ≡ r → v (suc m) ≡ x (4 * i + 3) ⊕ ⊖ x (4 * i + 5))
      → (k : ℕ) → across (2 * k + 1) ≡ sign R k ⊗ third R n W 4 q v k
  across_is v first rest k =
      staggered (λ i. ⊖ (x (4 * i + 1) ⊗ s (4 * (i * (2 * k + 1))))) (λ i. x (4 * i + 3) ⊗ s (4 * (suc i * (2 * k + 1))))
      ∙ ap₂ (λ (y z : C). ⊖ (x 1 ⊗ y) ⊕ sum R r middle ⊕ x (4 * r + 3) ⊗ z) (ap s (none k) ∙ sn_zero R n W) (ap s (all k) ∙ sn_odd_quarters R n W k)
      ∙ ring_from R (x 1 ∷ sum R r middle ∷ x (4 * r + 3) ∷ sign R k ∷ []) (given (:- var 1) (var 3 :* var 3) :1 (sign_square R k) ∷ [])
      (:- (var 0 :* :0) :+ var 1 :+ var 2 :* var 3)
      (var 3 :* (var 2 :+ var 3 :* var 1))
      tt
      ∙ ap₂ (λ (y z : C). sign R k ⊗ (y ⊕ z)) (sym (half_of_twice R n W (v 0) (x (4 * r + 3)) first))
      (sym (sum_scale R r (sign R k) middle)
      ∙ sym (sum_reverse R r (λ i. sign R k ⊗ middle i) (λ m. v (suc m) ⊗ c (4 * (suc m * (2 * k + 1)))) pair))
      ∙ ap (λ (y : C). sign R k ⊗ y) (sym (third_first R n W 4 r v k))
    where
      middle : ℕ → C
      middle i = ⊖ (x (4 * suc i + 1) ⊗ s (4 * (suc i * (2 * k + 1)))) ⊕ x (4 * i + 3) ⊗ s (4 * (suc i * (2 * k + 1)))

      pair : (m i : ℕ) → m + suc i ≡ r → v (suc m) ⊗ c (4 * (suc m * (2 * k + 1))) ≡ sign R k ⊗ middle i
      pair m i e =
          let next : 4 * suc i + 1 ≡ 4 * i + 5 = omega arith in
          let quarters : 4 * (suc i * (2 * k + 1)) + 4 * (suc m * (2 * k + 1)) ≡ n * (2 * k + 1) =
          omega (arith, ap (λ (z : ℕ). 8 * k * z) e, e) in
          ap₂ ◌⊗◌ (rest m i e) (cs_quarters_less R n W (4 * (suc i * (2 * k + 1))) (4 * (suc m * (2 * k + 1))) k quarters)
          ∙ ring R (x (4 * i + 3) ∷ x (4 * i + 5) ∷ s (4 * (suc i * (2 * k + 1))) ∷ sign R k ∷ [])
          ((var 0 :+ :- var 1) :* (var 3 :* var 2))
          (var 3 :* (:- (var 1 :* var 2) :+ var 0 :* var 2))
          tt
          ∙ ap (λ (j : ℕ). sign R k ⊗ (⊖ (x j ⊗ s (4 * (suc i * (2 * k + 1)))) ⊕ x (4 * i + 3) ⊗ s (4 * (suc i * (2 * k + 1))))) (sym next)
