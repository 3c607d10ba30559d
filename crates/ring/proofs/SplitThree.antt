-- DCT-III of 4q entries by one of 2q and two of q, over any commutative ring with a turn: the step of split radix. q is suc r here.
-- The even entries give the first, and the same at as many places from the end; the odd ones give the rest, and there its negative. Assumes nothing.
use mathlib.Core.Path.{◌≡◌, ◌∙◌, ap, ap₂}
use mathlib.Core.List.{[], ◌∷◌}
use Prim.Native.Nat.{ℕ, suc, ◌+◌, ◌*◌, ◌<◌}
use native.Mathlib.Omega.{arith}
use Rattle.ring.proofs.Ring.{Ring}
use Rattle.ring.proofs.Solve.{ring, var, :1, ◌:+◌, ◌:*◌, :-◌}
use Rattle.ring.proofs.Sum.{sum, sum_ext, sum_neg, sum_even_odd}
use Rattle.ring.proofs.Sign.{sign, sign_even, sign_odd}
use Rattle.ring.proofs.Turn.{Turn, cs, sn, cs_mirror}
use Rattle.ring.proofs.Third.{third}
use Rattle.ring.proofs.OddEntries.{odds, odds_rotated, odds_mirrored, along_is, across_is}

-- u holds the sums of neighbours among the odd entries of x, v their differences from the last to the first; the two that are left alone are doubled
pub record Neighbours {C : Type 0} (R : Ring C) (r : ℕ) (x u v : ℕ → C) : Type 0 where
  pub u_first : u 0 ≡ R.add (x 1) (x 1)
  pub u_rest : (i : ℕ) → i < r → u (suc i) ≡ R.add (x (4 * i + 3)) (x (4 * i + 5))
  pub v_first : v 0 ≡ R.add (x (4 * r + 3)) (x (4 * r + 3))
  pub v_rest : (m i : ℕ) → m + suc i ≡ r → v (suc m) ≡ R.add (x (4 * i + 3)) (R.neg (x (4 * i + 5)))

module _ {C : Type 0} (R : Ring C) (r : ℕ) (W : Turn R (4 * suc r)) (x : ℕ → C) where
  open R use {add as ◌⊕◌, mul as ◌⊗◌, neg as ⊖◌}

  infixl 65 ◌⊕◌
  infixl 70 ◌⊗◌
  infixl 75 ⊖◌
  abbrev q : ℕ
  q = suc r

  abbrev n : ℕ
  n = 4 * suc r

  abbrev c : ℕ → C
  c = cs R n W

  abbrev pub evens : ℕ → C
  evens i = x (2 * i)

  even_and_odd : (k : ℕ) → third R n W 1 n x k ≡ third R n W 2 (2 * q) evens k ⊕ odds R r W x (2 * k + 1)
  even_and_odd k =
      let twice : n ≡ 2 * q + 2 * q = omega arith in
      ap (λ (m : ℕ). sum R m term ⊕ ⊖ (x 0 ⊗ W.half)) twice
      ∙ ap (λ (y : C). y ⊕ ⊖ (x 0 ⊗ W.half))
      (sum_even_odd R (2 * q) term
      ∙ ap₂ ◌⊕◌
      (sum_ext R (2 * q) (λ i. term (i + i)) (λ i. x (2 * i) ⊗ c (2 * (i * (2 * k + 1)))) (λ i l. at_even i))
      (sum_ext R (2 * q) (λ i. term (suc (i + i))) (λ i. x (2 * i + 1) ⊗ c ((2 * i + 1) * (2 * k + 1))) (λ i l. at_odd i)))
      ∙ ring R
      (sum R (2 * q) (λ i. x (2 * i) ⊗ c (2 * (i * (2 * k + 1)))) ∷ odds R r W x (2 * k + 1) ∷ x 0 ⊗ W.half ∷ [])
      (var 0 :+ var 1 :+ :- var 2)
      (var 0 :+ :- var 2 :+ var 1)
      tt
    where
      term : ℕ → C
      term i = x i ⊗ c (1 * (i * (2 * k + 1)))

      at_even : (i : ℕ) → term (i + i) ≡ x (2 * i) ⊗ c (2 * (i * (2 * k + 1)))
      at_even i =
          let place : i + i ≡ 2 * i = omega arith in
          let angle : 1 * ((i + i) * (2 * k + 1)) ≡ 2 * (i * (2 * k + 1)) = omega arith in
          ap₂ (λ (a b : ℕ). x a ⊗ c b) place angle

      at_odd : (i : ℕ) → term (suc (i + i)) ≡ x (2 * i + 1) ⊗ c ((2 * i + 1) * (2 * k + 1))
      at_odd i =
          let place : suc (i + i) ≡ 2 * i + 1 = omega arith in
          let angle : 1 * (suc (i + i) * (2 * k + 1)) ≡ (2 * i + 1) * (2 * k + 1) = omega arith in
          ap₂ (λ (a b : ℕ). x a ⊗ c b) place angle

  -- at as many places from the end, the even entries give the same and the odd ones the negative
  evens_mirrored : (k l : ℕ) → k + suc l ≡ n → third R n W 2 (2 * q) evens l ≡ third R n W 2 (2 * q) evens k
  evens_mirrored k l e =
      ap (λ (y : C). y ⊕ ⊖ (x 0 ⊗ W.half))
      (sum_ext R (2 * q) (λ i. x (2 * i) ⊗ c (2 * (i * (2 * l + 1)))) (λ i. x (2 * i) ⊗ c (2 * (i * (2 * k + 1))))
      (λ i b. ap (λ (y : C). x (2 * i) ⊗ y) (same i)))
    where
      same : (i : ℕ) → c (2 * (i * (2 * l + 1))) ≡ c (2 * (i * (2 * k + 1)))
      same i =
          let turns : 2 * (i * (2 * k + 1)) + 2 * (i * (2 * l + 1)) ≡ 2 * n * (2 * i) = omega (arith, ap (λ (z : ℕ). 4 * i * z) e) in
          cs_mirror R n W (2 * (i * (2 * k + 1))) (2 * (i * (2 * l + 1))) (2 * i) turns
          ∙ ap (λ (y : C). y ⊗ c (2 * (i * (2 * k + 1)))) (sign_even R i) ∙ R.one_mul (c (2 * (i * (2 * k + 1))))

  odds_opposite : (k l : ℕ) → k + suc l ≡ n → odds R r W x (2 * l + 1) ≡ ⊖ odds R r W x (2 * k + 1)
  odds_opposite k l e =
      sum_ext R (2 * q) (λ i. x (2 * i + 1) ⊗ c ((2 * i + 1) * (2 * l + 1))) (λ i. ⊖ (x (2 * i + 1) ⊗ c ((2 * i + 1) * (2 * k + 1)))) (λ i b. opposite i)
      ∙ sum_neg R (2 * q) (λ i. x (2 * i + 1) ⊗ c ((2 * i + 1) * (2 * k + 1)))
    where
      opposite : (i : ℕ) → x (2 * i + 1) ⊗ c ((2 * i + 1) * (2 * l + 1)) ≡ ⊖ (x (2 * i + 1) ⊗ c ((2 * i + 1) * (2 * k + 1)))
      opposite i =
          let turns : (2 * i + 1) * (2 * k + 1) + (2 * i + 1) * (2 * l + 1) ≡ 2 * n * (2 * i + 1) =
          omega (arith, ap (λ (z : ℕ). 4 * i * z) e, e) in
          ap (λ (y : C). x (2 * i + 1) ⊗ y)
          (cs_mirror R n W ((2 * i + 1) * (2 * k + 1)) ((2 * i + 1) * (2 * l + 1)) (2 * i + 1) turns
          ∙ ap (λ (y : C). y ⊗ c ((2 * i + 1) * (2 * k + 1))) (sign_odd R i))
          ∙ ring R (x (2 * i + 1) ∷ c ((2 * i + 1) * (2 * k + 1)) ∷ []) (var 0 :* (:- :1 :* var 1)) (:- (var 0 :* var 1)) tt

  even_and_odd_mirrored : (k l : ℕ) → k + suc l ≡ n → third R n W 1 n x l ≡ third R n W 2 (2 * q) evens k ⊕ ⊖ odds R r W x (2 * k + 1)
  even_and_odd_mirrored k l e = even_and_odd l ∙ ap₂ ◌⊕◌ (evens_mirrored k l e) (odds_opposite k l e)

  module _ (u v : ℕ → C) (N : Neighbours R r x u v) where
    -- the two of q entries, rotated by the angle 2k + 1, and by a quarter less it
    abbrev pub lower : ℕ → C
    lower k = third R n W 4 q u k ⊗ cs R n W (2 * k + 1) ⊕ sign R k ⊗ third R n W 4 q v k ⊗ sn R n W (2 * k + 1)

    abbrev pub upper : ℕ → C
    upper k = third R n W 4 q u k ⊗ sn R n W (2 * k + 1) ⊕ ⊖ (sign R k ⊗ third R n W 4 q v k ⊗ cs R n W (2 * k + 1))

    pub odds_lower : (k : ℕ) → odds R r W x (2 * k + 1) ≡ lower k
    odds_lower k =
        odds_rotated R r W x (2 * k + 1)
        ∙ ap₂ (λ (y z : C). y ⊗ cs R n W (2 * k + 1) ⊕ z ⊗ sn R n W (2 * k + 1)) (along_is R r W x u N.u_first N.u_rest k) (across_is R r W x v N.v_first N.v_rest k)

    pub odds_upper : (k l : ℕ) → k + suc l ≡ 2 * q → odds R r W x (2 * l + 1) ≡ upper k
    odds_upper k l e =
        odds_mirrored R r W x (2 * k + 1) (2 * l + 1) (omega arith)
        ∙ ap₂ (λ (y z : C). y ⊗ sn R n W (2 * k + 1) ⊕ ⊖ (z ⊗ cs R n W (2 * k + 1))) (along_is R r W x u N.u_first N.u_rest k) (across_is R r W x v N.v_first N.v_rest k)

    -- the outputs at k, 2q − 1 − k, 2q + k and 4q − 1 − k
    pub split_first : (k : ℕ) → third R n W 1 n x k ≡ third R n W 2 (2 * q) evens k ⊕ lower k
    split_first k = even_and_odd k ∙ ap (λ (y : C). third R n W 2 (2 * q) evens k ⊕ y) (odds_lower k)

    pub split_second : (k l : ℕ) → k + suc l ≡ 2 * q → third R n W 1 n x l ≡ third R n W 2 (2 * q) evens l ⊕ upper k
    split_second k l e = even_and_odd l ∙ ap (λ (y : C). third R n W 2 (2 * q) evens l ⊕ y) (odds_upper k l e)

    pub split_third : (k l m : ℕ) → k + suc l ≡ 2 * q → l + suc m ≡ n → third R n W 1 n x m ≡ third R n W 2 (2 * q) evens l ⊕ ⊖ upper k
    split_third k l m e f = even_and_odd_mirrored l m f ∙ ap (λ (y : C). third R n W 2 (2 * q) evens l ⊕ ⊖ y) (odds_upper k l e)

    pub split_fourth : (k l : ℕ) → k + suc l ≡ n → third R n W 1 n x l ≡ third R n W 2 (2 * q) evens k ⊕ ⊖ lower k
    split_fourth k l e = even_and_odd_mirrored k l e ∙ ap (λ (y : C). third R n W 2 (2 * q) evens k ⊕ ⊖ y) (odds_lower k)
