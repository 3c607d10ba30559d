-- The MDCT of 2N = 4g entries as a DCT-IV of N = 2g, over any commutative ring with a turn of 16g units.
-- The angle of place n is that of DCT-IV at g + n (angle_ahead), half a turn less that at 3g − 1 − n (angle_mirror), half a turn more than that at n − 3g (angle_beyond).
-- `folds` gathers the four quarters of the sum by those angles. A place counted from the other end is given by an equation. Assumes nothing.
use mathlib.Core.Path.{◌≡◌, sym, ◌∙◌, ap, ap₂}
use mathlib.Core.List.{[], ◌∷◌}
use Prim.Native.Nat.{ℕ, suc, ◌+◌, ◌*◌, ◌-◌, ◌<◌}
use native.Mathlib.Nat as Nat
use native.Mathlib.Decide.{dec_lt}
use native.Mathlib.Omega.{arith}
use Rattle.ring.proofs.Ring as Ring
use Rattle.ring.proofs.Ring.{Ring}
use Rattle.ring.proofs.Solve.{ring, var, ◌:+◌, ◌:*◌, :-◌}
use Rattle.ring.proofs.Sum.{sum, sum_ext, sum_add, sum_split, sum_reverse, sum_fold}
use Rattle.ring.proofs.Sign.{sign, sign_odd}
use Rattle.ring.proofs.Turn.{Turn, cs, cs_turns, cs_mirror}
use Rattle.ring.proofs.Fourth.{fourth}

module _ {C : Type 0} (R : Ring C) (g : ℕ) (W : Turn R (4 * g)) where
  open R use {one as 𝟙, add as ◌⊕◌, mul as ◌⊗◌, neg as ⊖◌}

  infixl 65 ◌⊕◌
  infixl 70 ◌⊗◌
  infixl 75 ⊖◌
  -- the cosine of MDCT at the place n of output k, and that of DCT-IV at the place i
  abbrev pub block_cosine : ℕ → ℕ → C
  block_cosine k n = cs R (4 * g) W ((2 * n + 1 + 2 * g) * (2 * k + 1))

  abbrev pub four_cosine : ℕ → ℕ → C
  four_cosine k i = cs R (4 * g) W ((2 * i + 1) * (2 * k + 1))

  pub angle_ahead : (k n : ℕ) → block_cosine k n ≡ four_cosine k (g + n)
  angle_ahead k n =
      let same : (2 * n + 1 + 2 * g) * (2 * k + 1) ≡ (2 * (g + n) + 1) * (2 * k + 1) = omega arith in
      ap (cs R (4 * g) W) same

  -- an odd number of half turns
  odd_turns : (k : ℕ) (v : C) → sign R (2 * k + 1) ⊗ v ≡ ⊖ v
  odd_turns k v = ap (λ (s : C). s ⊗ v) (sign_odd R k) ∙ Ring.neg_mul R 𝟙 v ∙ ap ⊖◌ (R.one_mul v)

  pub angle_mirror : (k n i : ℕ) → n + suc i ≡ 3 * g → block_cosine k n ≡ ⊖ four_cosine k i
  angle_mirror k n i e =
      let turns : (2 * i + 1) * (2 * k + 1) + (2 * n + 1 + 2 * g) * (2 * k + 1) ≡ 2 * (4 * g) * (2 * k + 1) =
      omega (arith, ap (λ (z : ℕ). 2 * (2 * k + 1) * z) e) in
      cs_mirror R (4 * g) W ((2 * i + 1) * (2 * k + 1)) ((2 * n + 1 + 2 * g) * (2 * k + 1)) (2 * k + 1) turns
      ∙ odd_turns k (four_cosine k i)

  pub angle_beyond : (k i : ℕ) → block_cosine k (3 * g + i) ≡ ⊖ four_cosine k i
  angle_beyond k i =
      let turns : (2 * (3 * g + i) + 1 + 2 * g) * (2 * k + 1) ≡ (2 * i + 1) * (2 * k + 1) + 2 * (4 * g) * (2 * k + 1) = omega arith in
      ap (cs R (4 * g) W) turns ∙ cs_turns R (4 * g) W ((2 * i + 1) * (2 * k + 1)) (2 * k + 1) ∙ odd_turns k (four_cosine k i)

  -- f is y folded: −c reversed − d, then a − b reversed, where a, b, c, d are the quarters of y
  pub record Fold (y f : ℕ → C) : Type 0 where
    pub low : (i r : ℕ) → i + suc r ≡ g → f i ≡ ⊖ y (2 * g + r) ⊕ ⊖ y (3 * g + i)
    pub high : (t r : ℕ) → t < g → t + suc r ≡ 2 * g → f (g + t) ≡ y t ⊕ ⊖ y r

  -- every y has a fold
  fold_by : (ℕ → C) → (i : ℕ) → Dec (i < g) → C
  fold_by y i (yes low) = ⊖ y (3 * g - suc i) ⊕ ⊖ y (3 * g + i)
  fold_by y i (no high) = y (i - g) ⊕ ⊖ y (3 * g - suc i)

  pub fold_at : (ℕ → C) → ℕ → C
  fold_at y i = fold_by y i (dec_lt i g)

  pub fold_at_is : (y : ℕ → C) → Fold y (fold_at y)
  unfolding fold_at fold_by
  fold_at_is y = record { low = λ i r e. lower i r e (dec_lt i g); high = λ t r l e. upper t r l e (dec_lt (g + t) g) }
    where
      lower : (i r : ℕ) → i + suc r ≡ g → (d : Dec (i < g)) → fold_by y i d ≡ ⊖ y (2 * g + r) ⊕ ⊖ y (3 * g + i)
      lower i r e (yes low) = let place : 3 * g - suc i ≡ 2 * g + r = omega arith in ap (λ (z : ℕ). ⊖ y z ⊕ ⊖ y (3 * g + i)) place
      lower i r e (no high) = absurd (high (omega arith))

      upper : (t r : ℕ) → t < g → t + suc r ≡ 2 * g → (d : Dec (g + t < g)) → fold_by y (g + t) d ≡ y t ⊕ ⊖ y r
      upper t r l e (yes low) = absurd (Nat.lt_irrefl g (omega arith))
      upper t r l e (no high) =
          let place : g + t - g ≡ t = omega arith in
          let mirror : 3 * g - suc (g + t) ≡ r = omega arith in
          ap₂ (λ (a b : ℕ). y a ⊕ ⊖ y b) place mirror

  module _ (y f : ℕ → C) (F : Fold y f) (k : ℕ) where
    abbrev block : ℕ → C
    block n = y n ⊗ block_cosine k n

    abbrev four : ℕ → C
    four i = f i ⊗ four_cosine k i

    -- a and b
    first_half : sum R g (λ t. four (g + t)) ≡ sum R (g + g) block
    first_half =
        sum_fold R g block (λ t. four (g + t))
        (λ t r l e.
        ap (λ (v : C). v ⊗ four_cosine k (g + t)) (F.high t r l (omega arith))
        ∙ ring R (y t ∷ y r ∷ four_cosine k (g + t) ∷ []) ((var 0 :+ :- var 1) :* var 2) (var 0 :* var 2 :+ var 1 :* :- var 2) tt
        ∙ sym (ap₂ (λ (u v : C). y t ⊗ u ⊕ y r ⊗ v) (angle_ahead k t) (angle_mirror k r (g + t) (omega arith))))

    -- c and d
    second_half : sum R g four ≡ sum R (g + g) (λ n. block (2 * g + n))
    second_half =
        sum_ext R g four (λ i. reversed i ⊕ beyond i) pair
        ∙ sum_add R g reversed beyond
        ∙ ap₂ ◌⊕◌
        (sum_reverse R g (λ r. block (2 * g + r)) reversed (λ i r e. let place : g - suc i ≡ r = omega arith in ap (λ (z : ℕ). block (2 * g + z)) place))
        (sum_ext R g beyond (λ i. block (2 * g + (g + i))) (λ i l. let place : 3 * g + i ≡ 2 * g + (g + i) = omega arith in ap block place))
        ∙ sym (sum_split R g g (λ n. block (2 * g + n)))
      where
        reversed : ℕ → C
        reversed i = block (2 * g + (g - suc i))

        beyond : ℕ → C
        beyond i = block (3 * g + i)

        pair : (i : ℕ) → i < g → four i ≡ reversed i ⊕ beyond i
        pair i l =
            ap (λ (v : C). v ⊗ four_cosine k i) (F.low i (g - suc i) (omega arith))
            ∙ ring R (y (2 * g + (g - suc i)) ∷ y (3 * g + i) ∷ four_cosine k i ∷ []) ((:- var 0 :+ :- var 1) :* var 2) (var 0 :* :- var 2 :+ var 1 :* :- var 2) tt
            ∙ sym (ap₂ (λ (u v : C). y (2 * g + (g - suc i)) ⊗ u ⊕ y (3 * g + i) ⊗ v) (angle_mirror k (2 * g + (g - suc i)) i (omega arith)) (angle_beyond k i))

    pub folds : sum R (2 * (2 * g)) block ≡ fourth R (4 * g) W (2 * g) f k
    folds =
        let places : 2 * (2 * g) ≡ 2 * g + 2 * g = omega arith in
        let twice : g + g ≡ 2 * g = omega arith in
        ap (λ (n : ℕ). sum R n block) places ∙ sum_split R (2 * g) (2 * g) block
        ∙ R.add_comm (sum R (2 * g) block) (sum R (2 * g) (λ n. block (2 * g + n)))
        ∙ sym (ap (λ (n : ℕ). sum R n four) (sym twice) ∙ sum_split R g g four
        ∙ ap₂ ◌⊕◌ (second_half ∙ ap (λ (n : ℕ). sum R n (λ m. block (2 * g + m))) twice) (first_half ∙ ap (λ (n : ℕ). sum R n block) twice))
