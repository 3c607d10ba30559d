-- The fast routines by length: a leaf is the naive sum (dct2_leaf, dst2_leaf, dct3_leaf, dst3_leaf), four entries and more take a step (dct2_step, dct3_step) or turn into the
-- cosine transform (dst2_turned, dst3_turned), type 4 is merged from two of half the length (dct4_merged, dst4_merged), and each leaves as many entries (dct2_length and the
-- others). Over any arithmetic. Assumes nothing.
use mathlib.Core.Path.{◌≡◌, refl, sym, ◌∙◌, ap}
use mathlib.Core.List.{List}
use Prim.Native.Nat.{ℕ, zero, suc, ◌*◌, ◌-◌, ◌^◌, ◌≤◌}
use native.Mathlib.Nat as Nat
use native.Mathlib.Omega.{arith}
use lib.ListN.{length}
use Rattle.ring.proofs.Table.{length_tab}
use Rattle.sums.specs.Size.{exponent_of}
use Rattle.sums.proofs.Sizes.{exponent_of_is, exponent_of_power}
use Rattle.algorithms.specs.Ops.{Ops, Twiddles}
use Rattle.algorithms.specs.Lists.{alternated, reversed}
use Rattle.algorithms.specs.Naive.{naive_dct2, naive_dst2, naive_dct3, naive_dst3}
use Rattle.algorithms.specs.Split.{input_dct2, input_dct4_even, input_dct4_odd, merge_two, input_evens, input_one, input_three, merge_three, split_dct2, split_dst2, split_dct3, split_dst3}
use Rattle.algorithms.specs.Four.{left_dct4, right_dct4, left_dst4, right_dst4, merge_dct4, merge_dst4, dct4_by, dst4_by, fast_dct4, fast_dst4}
use Rattle.algorithms.specs.Fast.{dct2_fast, dst2_fast, dct3_fast, dst3_fast, dct4_fast, dst4_fast}
use Rattle.algorithms.proofs.Lists.{length_there_back, length_quarters, length_reversed, length_alternated}
use Rattle.algorithms.proofs.Inputs.{length_half, length_cosines, length_sines, length_evens, length_one, length_three}
use Rattle.algorithms.proofs.Four.{length_left_dct4, length_right_dct4, length_left_dst4, length_right_dst4}

-- four times 2^k
four_power : (k q n : ℕ) → q ≡ 2 ^ k → n ≡ 4 * q → n ≡ 2 ^ suc (suc k)
four_power k q n power whole = omega (arith, power, whole, Nat.pow-suc 2 k, Nat.pow-suc 2 (suc k))

two_power : (k q n : ℕ) → q ≡ 2 ^ k → n ≡ 2 * q → n ≡ 2 ^ suc k
two_power k q n power whole = omega (arith, power, whole, Nat.pow-suc 2 k)

-- 1 is 2^0 and 2 is 2^1
one_power : (n : ℕ) → n ≡ 1 → n ≡ 2 ^ 0
one_power n is = omega (arith, is, Nat.pow-zero 2)

first_power : (n : ℕ) → n ≡ 2 → n ≡ 2 ^ 1
first_power n is = omega (arith, is, Nat.pow-suc 2 0, Nat.pow-zero 2)

-- a routine by the exponent, at 0 and 1 the same as another
module _ {A : Type 0} (by : ℕ → List A → List A) (leaf : List A → List A) (x : List A) where
  by_leaf : (by 0 x ≡ leaf x) → (by 1 x ≡ leaf x) → (n : ℕ) → length x ≡ n → 1 ≤ n → n ≤ 2 → by (exponent_of (length x)) x ≡ leaf x
  by_leaf none one zero size some short = absurd (let no : ⊥ = omega arith in no)
  by_leaf none one (suc zero) size some short =
      ap (λ (e : ℕ). by e x) (exponent_of_is (length x) 0 (omega arith) (one_power (length x) size)) ∙ none
  by_leaf none one (suc (suc zero)) size some short =
      ap (λ (e : ℕ). by e x) (exponent_of_is (length x) 1 (omega arith) (first_power (length x) size)) ∙ one
  by_leaf none one (suc (suc (suc n))) size some short = absurd (let no : ⊥ = omega arith in no)

  by_exponent : (e : ℕ) → e ≤ 11 → length x ≡ 2 ^ e → by (exponent_of (length x)) x ≡ by e x
  by_exponent e small power = ap (λ (e : ℕ). by e x) (exponent_of_power (length x) e small power)

-- by the exponent, every routine leaves as many entries
module _ {A : Type 0} (O : Ops A) (W : Twiddles A) where
  length_dct2 : (e : ℕ) (x : List A) → length x ≡ 2 ^ e → length (split_dct2 O W e x) ≡ 2 ^ e
  unfolding split_dct2 naive_dct2 merge_two
  length_dct2 zero x power = length_tab (length x) _ ∙ power
  length_dct2 (suc zero) x power = length_tab (length x) _ ∙ power
  length_dct2 (suc (suc k)) x power = length_tab (4 * 2 ^ k) _ ∙ four_power k (2 ^ k) (4 * 2 ^ k) refl refl

  length_dct3 : (e : ℕ) (x : List A) → length x ≡ 2 ^ e → length (split_dct3 O W e x) ≡ 2 ^ e
  unfolding split_dct3 naive_dct3 merge_three
  length_dct3 zero x power = length_tab (length x) _ ∙ power
  length_dct3 (suc zero) x power = length_tab (length x) _ ∙ power
  length_dct3 (suc (suc k)) x power = length_quarters (2 ^ k) _ _ _ _ ∙ four_power k (2 ^ k) (4 * 2 ^ k) refl refl

  length_dst3 : (e : ℕ) (x : List A) → length x ≡ 2 ^ e → length (split_dst3 O W e x) ≡ 2 ^ e
  unfolding split_dst3 naive_dst3
  length_dst3 zero x power = length_tab (length x) _ ∙ power
  length_dst3 (suc zero) x power = length_tab (length x) _ ∙ power
  length_dst3 (suc (suc k)) x power =
      length_alternated O (split_dct3 O W (suc (suc k)) (reversed O x)) ∙ length_dct3 (suc (suc k)) (reversed O x) (length_reversed O x ∙ power)

module _ {A : Type 0} (O : Ops A) (W : Twiddles A) (x : List A) where
  module _ (some : 1 ≤ length x) (short : length x ≤ 2) where
    pub dct2_leaf : dct2_fast O W x ≡ naive_dct2 O W x
    unfolding dct2_fast split_dct2
    dct2_leaf = by_leaf (split_dct2 O W) (naive_dct2 O W) x refl refl (length x) refl some short

    pub dst2_leaf : dst2_fast O W x ≡ naive_dst2 O W x
    unfolding dst2_fast split_dst2
    dst2_leaf = by_leaf (split_dst2 O W) (naive_dst2 O W) x refl refl (length x) refl some short

    pub dct3_leaf : dct3_fast O W x ≡ naive_dct3 O W x
    unfolding dct3_fast split_dct3
    dct3_leaf = by_leaf (split_dct3 O W) (naive_dct3 O W) x refl refl (length x) refl some short

    pub dst3_leaf : dst3_fast O W x ≡ naive_dst3 O W x
    unfolding dst3_fast split_dst3
    dst3_leaf = by_leaf (split_dst3 O W) (naive_dst3 O W) x refl refl (length x) refl some short

  module _ (k q : ℕ) (power : q ≡ 2 ^ k) (small : k ≤ 9) (size : length x ≡ 4 * q) where
    whole : length x ≡ 2 ^ suc (suc k)
    whole = four_power k q (length x) power size

    pub dct2_step : dct2_fast O W x
        ≡ merge_two O q (dct2_fast O W (input_dct2 O q x)) (dct2_fast O W (input_dct4_even O W q x)) (dct2_fast O W (input_dct4_odd O W q x))
    unfolding dct2_fast split_dct2
    dct2_step =
        let half = by_exponent (split_dct2 O W) (naive_dct2 O W) (input_dct2 O q x) (suc k) (omega arith) (two_power k q _ power (length_half O W q x)) in
        let even = by_exponent (split_dct2 O W) (naive_dct2 O W) (input_dct4_even O W q x) k (omega arith) (length_cosines O W q x ∙ power) in
        let odd = by_exponent (split_dct2 O W) (naive_dct2 O W) (input_dct4_odd O W q x) k (omega arith) (length_sines O W q x ∙ power) in
        by_exponent (split_dct2 O W) (naive_dct2 O W) x (suc (suc k)) (omega arith) whole
        ∙ (λ i.
        merge_two O (sym power i) (split_dct2 O W (suc k) (input_dct2 O (sym power i) x)) (split_dct2 O W k (input_dct4_even O W (sym power i) x))
        (split_dct2 O W k (input_dct4_odd O W (sym power i) x)))
        ∙ (λ i. merge_two O q (sym half i) (sym even i) (sym odd i))

    pub dct3_step : dct3_fast O W x
        ≡ merge_three O W q (dct3_fast O W (input_evens O q x)) (dct3_fast O W (input_one O q x)) (dct3_fast O W (input_three O q x))
    unfolding dct3_fast split_dct3
    dct3_step =
        let half = by_exponent (split_dct3 O W) (naive_dct3 O W) (input_evens O q x) (suc k) (omega arith) (two_power k q _ power (length_evens O W q x)) in
        let one = by_exponent (split_dct3 O W) (naive_dct3 O W) (input_one O q x) k (omega arith) (length_one O W q x ∙ power) in
        let three = by_exponent (split_dct3 O W) (naive_dct3 O W) (input_three O q x) k (omega arith) (length_three O W q x ∙ power) in
        by_exponent (split_dct3 O W) (naive_dct3 O W) x (suc (suc k)) (omega arith) whole
        ∙ (λ i.
        merge_three O W (sym power i) (split_dct3 O W (suc k) (input_evens O (sym power i) x)) (split_dct3 O W k (input_one O (sym power i) x))
        (split_dct3 O W k (input_three O (sym power i) x)))
        ∙ (λ i. merge_three O W q (sym half i) (sym one i) (sym three i))

    pub dst2_turned : dst2_fast O W x ≡ reversed O (dct2_fast O W (alternated O x))
    unfolding dst2_fast split_dst2 dct2_fast
    dst2_turned =
        by_exponent (split_dst2 O W) (naive_dst2 O W) x (suc (suc k)) (omega arith) whole
        ∙ ap (reversed O)
        (sym (by_exponent (split_dct2 O W) (naive_dct2 O W) (alternated O x) (suc (suc k)) (omega arith) (length_alternated O x ∙ whole)))

    pub dst3_turned : dst3_fast O W x ≡ alternated O (dct3_fast O W (reversed O x))
    unfolding dst3_fast split_dst3 dct3_fast
    dst3_turned =
        by_exponent (split_dst3 O W) (naive_dst3 O W) x (suc (suc k)) (omega arith) whole
        ∙ ap (alternated O)
        (sym (by_exponent (split_dct3 O W) (naive_dct3 O W) (reversed O x) (suc (suc k)) (omega arith) (length_reversed O x ∙ whole)))

  module _ (e : ℕ) (small : e ≤ 11) (power : length x ≡ 2 ^ e) where
    pub dct2_length : length (dct2_fast O W x) ≡ length x
    unfolding dct2_fast
    dct2_length = ap length (by_exponent (split_dct2 O W) (naive_dct2 O W) x e small power) ∙ length_dct2 O W e x power ∙ sym power

    pub dct3_length : length (dct3_fast O W x) ≡ length x
    unfolding dct3_fast
    dct3_length = ap length (by_exponent (split_dct3 O W) (naive_dct3 O W) x e small power) ∙ length_dct3 O W e x power ∙ sym power

    pub dst3_length : length (dst3_fast O W x) ≡ length x
    unfolding dst3_fast
    dst3_length = ap length (by_exponent (split_dst3 O W) (naive_dst3 O W) x e small power) ∙ length_dst3 O W e x power ∙ sym power

  module _ (k m : ℕ) (power : m ≡ 2 ^ k) (small : k ≤ 9) (size : length x ≡ 2 * m) where
    less : exponent_of (length x) - 1 ≡ k
    less = let is = exponent_of_is (length x) (suc k) (omega arith) (two_power k m (length x) power size) in omega (arith, is)

    cosines_of : (y : List A) → length y ≡ m → dct3_fast O W y ≡ split_dct3 O W k y
    unfolding dct3_fast
    cosines_of y as_many = by_exponent (split_dct3 O W) (naive_dct3 O W) y k (omega arith) (as_many ∙ power)

    sines_of : (y : List A) → length y ≡ m → dst3_fast O W y ≡ split_dst3 O W k y
    unfolding dst3_fast
    sines_of y as_many = by_exponent (split_dst3 O W) (naive_dst3 O W) y k (omega arith) (as_many ∙ power)

    pub dct4_merged : dct4_fast O W x ≡ merge_dct4 O W m (dct3_fast O W (left_dct4 O m x)) (dst3_fast O W (right_dct4 O m x))
    unfolding dct4_fast fast_dct4 dct4_by
    dct4_merged =
        let left = cosines_of (left_dct4 O m x) (length_left_dct4 O m x) in
        let right = sines_of (right_dct4 O m x) (length_right_dct4 O m x) in
        ap (λ (e : ℕ). fast_dct4 O W e x) less
        ∙ (λ i. merge_dct4 O W (sym power i) (split_dct3 O W k (left_dct4 O (sym power i) x)) (split_dst3 O W k (right_dct4 O (sym power i) x)))
        ∙ (λ i. merge_dct4 O W m (sym left i) (sym right i))

    pub dst4_merged : dst4_fast O W x ≡ merge_dst4 O W m (dst3_fast O W (left_dst4 O m x)) (dct3_fast O W (right_dst4 O m x))
    unfolding dst4_fast fast_dst4 dst4_by
    dst4_merged =
        let left = sines_of (left_dst4 O m x) (length_left_dst4 O m x) in
        let right = cosines_of (right_dst4 O m x) (length_right_dst4 O m x) in
        ap (λ (e : ℕ). fast_dst4 O W e x) less
        ∙ (λ i. merge_dst4 O W (sym power i) (split_dst3 O W k (left_dst4 O (sym power i) x)) (split_dct3 O W k (right_dst4 O (sym power i) x)))
        ∙ (λ i. merge_dst4 O W m (sym left i) (sym right i))

    pub dct4_length : length (dct4_fast O W x) ≡ length x
    unfolding merge_dct4
    dct4_length = ap length dct4_merged ∙ length_there_back m _ _ ∙ sym size
