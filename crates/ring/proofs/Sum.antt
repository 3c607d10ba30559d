-- Finite sums over any commutative ring: Σ_{i<n} f i, as `sum_of` of the ring's addition.
-- By the terms: sum_ext, sum_nought, sum_add, sum_neg, sum_scale, sum_scale_right, sum_const.
-- By the range: sum_suc, sum_first, sum_split, sum_halves, sum_reverse, sum_fold, sum_even_odd, sum_single. Two sums: sum_swap, sum_gathered, sum_diagonal.
-- A place counted from the other end is given by an equation, i + suc k ≡ n, and never by a subtraction inside a product. Assumes nothing.
use mathlib.Core.Path.{◌≡◌, refl, sym, ◌∙◌, ap, ap₂}
use mathlib.Core.Logic.{◌≢◌, ⊎_elim}
use Prim.Native.Nat.{ℕ, zero, suc, ◌+◌, ◌-◌, ◌<◌}
use native.Mathlib.Nat as Nat
use native.Mathlib.Decide.{dec_lt}
use native.Mathlib.Omega.{arith}
use Rattle.ring.specs.Finite.{sum_of}
use Rattle.ring.proofs.Terms.{terms_none, terms_suc, terms_ext}
use Rattle.ring.proofs.Ring as Ring
use Rattle.ring.proofs.Ring.{Ring}

module _ {C : Type 0} (R : Ring C) where
  open R use {nought as 𝟘, one as 𝟙, add as ◌⊕◌, mul as ◌⊗◌, neg as ⊖◌}

  infixl 65 ◌⊕◌
  infixl 70 ◌⊗◌
  infixl 75 ⊖◌
  abbrev pub sum : ℕ → (ℕ → C) → C
  sum = sum_of R.add R.nought

  pub sum_zero : (f : ℕ → C) → sum 0 f ≡ 𝟘
  sum_zero = terms_none R.add R.nought

  pub sum_suc : (n : ℕ) (f : ℕ → C) → sum (suc n) f ≡ sum n f ⊕ f n
  sum_suc = terms_suc R.add R.nought

  pub sum_ext : (n : ℕ) (f h : ℕ → C) → ((i : ℕ) → i < n → f i ≡ h i) → sum n f ≡ sum n h
  sum_ext n f h e = terms_ext R.add R.nought n e

  pub sum_nought : (n : ℕ) (f : ℕ → C) → ((i : ℕ) → i < n → f i ≡ 𝟘) → sum n f ≡ 𝟘
  unfolding sum_of
  sum_nought zero f e = refl
  sum_nought (suc n) f e =
      ap₂ ◌⊕◌ (sum_nought n f (λ i l. e i (omega arith))) (e n (omega arith)) ∙ R.nought_add 𝟘

  pub sum_add : (n : ℕ) (f h : ℕ → C) → sum n (λ i. f i ⊕ h i) ≡ sum n f ⊕ sum n h
  unfolding sum_of
  sum_add zero f h = sym (R.nought_add 𝟘)
  sum_add (suc n) f h =
      ap (λ (x : C). x ⊕ (f n ⊕ h n)) (sum_add n f h) ∙ Ring.add_swap R (sum n f) (sum n h) (f n) (h n)

  pub sum_neg : (n : ℕ) (f : ℕ → C) → sum n (λ i. ⊖ f i) ≡ ⊖ sum n f
  unfolding sum_of
  sum_neg zero f = sym (Ring.neg_nought R)
  sum_neg (suc n) f = ap (λ (x : C). x ⊕ ⊖ f n) (sum_neg n f) ∙ sym (Ring.neg_sum R (sum n f) (f n))

  pub sum_scale : (n : ℕ) (c : C) (f : ℕ → C) → sum n (λ i. c ⊗ f i) ≡ c ⊗ sum n f
  unfolding sum_of
  sum_scale zero c f = sym (Ring.mul_nought R c)
  sum_scale (suc n) c f =
      ap (λ (x : C). x ⊕ c ⊗ f n) (sum_scale n c f) ∙ sym (Ring.mul_add R c (sum n f) (f n))

  pub sum_scale_right : (n : ℕ) (c : C) (f : ℕ → C) → sum n (λ i. f i ⊗ c) ≡ sum n f ⊗ c
  sum_scale_right n c f =
      sum_ext n (λ i. f i ⊗ c) (λ i. c ⊗ f i) (λ i l. R.mul_comm (f i) c) ∙ sum_scale n c f ∙ R.mul_comm c (sum n f)

  pub sum_const : (n : ℕ) (c : C) → sum n (λ i. c) ≡ Ring.num R n ⊗ c
  unfolding sum_of Ring.num
  sum_const zero c = sym (Ring.nought_mul R c)
  sum_const (suc n) c =
      ap₂ ◌⊕◌ (sum_const n c) (sym (R.one_mul c)) ∙ sym (R.add_mul (Ring.num R n) 𝟙 c)

  pub sum_split : (m n : ℕ) (f : ℕ → C) → sum (m + n) f ≡ sum m f ⊕ sum n (λ i. f (m + i))
  unfolding sum_of
  sum_split m zero f = ap (λ (k : ℕ). sum k f) (Nat.add-zero m) ∙ sym (Ring.add_nought R (sum m f))
  sum_split m (suc n) f =
      ap (λ (k : ℕ). sum k f) (Nat.add-suc m n) ∙ ap (λ (x : C). x ⊕ f (m + n)) (sum_split m n f)
      ∙ R.add_assoc (sum m f) (sum n (λ i. f (m + i))) (f (m + n))

  pub sum_first : (n : ℕ) (f : ℕ → C) → sum (suc n) f ≡ f 0 ⊕ sum n (λ i. f (suc i))
  unfolding sum_of
  sum_first zero f = R.nought_add (f 0) ∙ sym (Ring.add_nought R (f 0))
  sum_first (suc n) f =
      ap (λ (x : C). x ⊕ f (suc n)) (sum_first n f) ∙ R.add_assoc (f 0) (sum n (λ i. f (suc i))) (f (suc n))

  -- the two halves of the range, side by side
  pub sum_halves : (n : ℕ) (f : ℕ → C) → sum (n + n) f ≡ sum n (λ i. f i ⊕ f (n + i))
  sum_halves n f = sum_split n n f ∙ sym (sum_add n f (λ i. f (n + i)))

  -- read backwards: h at i is f at the place that is as far from the end
  pub sum_reverse : (n : ℕ) (f h : ℕ → C) → ((i k : ℕ) → i + suc k ≡ n → h i ≡ f k) → sum n h ≡ sum n f
  unfolding sum_of
  sum_reverse zero f h e = refl
  sum_reverse (suc n) f h e =
      ap₂ ◌⊕◌ (sum_reverse n (λ k. f (suc k)) h (λ i k l. e i (suc k) (omega arith))) (e n 0 (omega arith))
      ∙ R.add_comm (sum n (λ k. f (suc k))) (f 0) ∙ sym (sum_first n f)

  -- folded in the middle: each place with the one that is as far from the end
  pub sum_fold : (n : ℕ) (f h : ℕ → C) → ((i k : ℕ) → i < n → i + suc k ≡ n + n → h i ≡ f i ⊕ f k) → sum n h ≡ sum (n + n) f
  sum_fold n f h e =
      sum_ext n h (λ i. f i ⊕ f (n + (n - suc i))) (λ i l. e i (n + (n - suc i)) l (omega arith))
      ∙ sum_add n f (λ i. f (n + (n - suc i)))
      ∙ ap (λ (x : C). sum n f ⊕ x)
      (sum_reverse n (λ k. f (n + k)) (λ i. f (n + (n - suc i))) (λ i k l. ap (λ (a : ℕ). f (n + a)) (omega arith)))
      ∙ sym (sum_split n n f)

  -- the even places and the odd ones
  pub sum_even_odd : (n : ℕ) (f : ℕ → C) → sum (n + n) f ≡ sum n (λ i. f (i + i)) ⊕ sum n (λ i. f (suc (i + i)))
  unfolding sum_of
  sum_even_odd zero f = sym (R.nought_add 𝟘)
  sum_even_odd (suc n) f =
      let two_more : suc n + suc n ≡ suc (suc (n + n)) = omega arith in
      ap (λ (k : ℕ). sum k f) two_more
      ∙ ap (λ (x : C). x ⊕ f (n + n) ⊕ f (suc (n + n))) (sum_even_odd n f)
      ∙ R.add_assoc (sum n (λ i. f (i + i)) ⊕ sum n (λ i. f (suc (i + i)))) (f (n + n)) (f (suc (n + n)))
      ∙ Ring.add_swap R (sum n (λ i. f (i + i))) (sum n (λ i. f (suc (i + i)))) (f (n + n)) (f (suc (n + n)))

  pub sum_swap : (m n : ℕ) (f : ℕ → ℕ → C) → sum m (λ i. sum n (λ k. f i k)) ≡ sum n (λ k. sum m (λ i. f i k))
  unfolding sum_of
  sum_swap zero n f = sym (sum_nought n (λ k. 𝟘) (λ k l. refl))
  sum_swap (suc m) n f =
      ap (λ (x : C). x ⊕ sum n (λ k. f m k)) (sum_swap m n f)
      ∙ sym (sum_add n (λ k. sum m (λ i. f i k)) (λ k. f m k))

  -- one term alone is left
  pub sum_single : (n k : ℕ) (f : ℕ → C) → k < n → ((i : ℕ) → i < n → i ≢ k → f i ≡ 𝟘) → sum n f ≡ f k
  unfolding sum_of
  sum_single zero k f l e = absurd (Nat.not-suc-le-zero l)
  sum_single (suc n) k f l e =
      ⊎_elim (λ (h : k ≡ n).
      ap₂ ◌⊕◌ (sum_nought n f (λ i b. e i (omega arith) (omega arith))) (ap f (sym h)) ∙ R.nought_add (f k))
      (λ (h : k < n).
      ap₂ ◌⊕◌ (sum_single n k f h (λ i b d. e i (omega arith) d)) (e n (omega arith) (omega arith)) ∙ Ring.add_nought R (f k))
      (Nat.eq-or-lt_of_le (Nat.le_of_suc-le-suc l))

  -- a sum of sums, gathered by the entries of the inner one
  pub sum_gathered : (m n : ℕ) (x : ℕ → C) (f : ℕ → ℕ → C) (h : ℕ → C)
      → sum m (λ k. sum n (λ i. x i ⊗ f i k) ⊗ h k) ≡ sum n (λ i. x i ⊗ sum m (λ k. f i k ⊗ h k))
  sum_gathered m n x f h =
      sum_ext m (λ k. sum n (λ i. x i ⊗ f i k) ⊗ h k) (λ k. sum n (λ i. x i ⊗ (f i k ⊗ h k)))
      (λ k l.
      sym (sum_scale_right n (h k) (λ i. x i ⊗ f i k))
      ∙ sum_ext n (λ i. x i ⊗ f i k ⊗ h k) (λ i. x i ⊗ (f i k ⊗ h k)) (λ i b. R.mul_assoc (x i) (f i k) (h k)))
      ∙ sum_swap m n (λ k i. x i ⊗ (f i k ⊗ h k))
      ∙ sum_ext n (λ i. sum m (λ k. x i ⊗ (f i k ⊗ h k))) (λ i. x i ⊗ sum m (λ k. f i k ⊗ h k)) (λ i b. sum_scale m (x i) (λ k. f i k ⊗ h k))

  -- where the weights are symmetric, and nought at two different places, one entry alone is left
  pub sum_diagonal : (n : ℕ) (x : ℕ → C) (w : ℕ → ℕ → C) → ((i k : ℕ) → w i k ≡ w k i) → ((i k : ℕ) → k < i → i < n → w i k ≡ 𝟘)
      → (l : ℕ) → l < n → sum n (λ i. x i ⊗ w i l) ≡ x l ⊗ w l l
  sum_diagonal n x w symmetric apart l b =
      sum_single n l (λ i. x i ⊗ w i l) b (λ i h other. ap (λ (y : C). x i ⊗ y) (none i h other) ∙ Ring.mul_nought R (x i))
    where
      none : (i : ℕ) → i < n → i ≢ l → w i l ≡ 𝟘
      none i h other = elim (dec_lt l i) [ yes less ↦ apart i l less h | no more ↦ symmetric i l ∙ apart l i (omega arith) b ]
