-- type2and3_splitradix.rs: a transform of 4q entries by one of 2q and two of q, on lists and in the Rust's order of operations.
-- Names follow the Rust. The twiddle at i is the cosine and the sine at (2i + 1)/(16q) of a turn. Assumes nothing.
use Rattle.std.specs.Prelude.{cond, List, ◌++◌, ℕ, zero, suc, ◌+◌, ◌*◌, ◌-◌, ◌^◌, eqb}
use Rattle.ring.specs.Finite.{tab}
use Rattle.algorithms.specs.Ops.{Ops, Twiddles, at}
use Rattle.algorithms.specs.Lists.{back, quarters, by_fours, turned, alternated, reversed}
use Rattle.algorithms.specs.Naive.{naive_dct2, naive_dst2, naive_dct3, naive_dst3}

module _ {A : Type 0} (O : Ops A) where
  -- the rotation of a pair by a cosine and a sine: a·cos + b·sin and b·cos − a·sin
  abbrev pub along : A → A → A → A → A
  along a b cos sin = O.add (O.mul a cos) (O.mul b sin)

  abbrev pub across : A → A → A → A → A
  across a b cos sin = O.sub (O.mul b cos) (O.mul a sin)

  -- DCT-II, before the three inner ones: from the entries i, 2q − 1 − i, 2q + i and 4q − 1 − i
  module _ (q : ℕ) (x : List A) where
    abbrev pub half_low : ℕ → A
    half_low i = O.add (at O x (4 * q - 1 - i)) (at O x i)

    abbrev pub half_high : ℕ → A
    half_high i = O.add (at O x (2 * q - 1 - i)) (at O x (2 * q + i))

    abbrev pub lower : ℕ → A
    lower i = O.sub (at O x i) (at O x (4 * q - 1 - i))

    abbrev pub upper : ℕ → A
    upper i = O.sub (at O x (2 * q - 1 - i)) (at O x (2 * q + i))

    unfoldable pub input_dct2 : List A
    input_dct2 = tab q half_low ++ back q half_high

  -- DCT-II, after them: h of 2q entries, c and s of q. The first and the last output stand outside the Rust's loop
  module _ (q : ℕ) (h c s : List A) where
    abbrev pub sin_output : ℕ → A
    sin_output i = turned O (suc (i + q)) (at O s (q - i))

    abbrev pub after_even : ℕ → A
    after_even zero = at O c 0
    after_even (suc n) = O.sub (at O c (suc n)) (sin_output (suc n))

    abbrev pub before_even : ℕ → A
    before_even n = cond (eqb (suc n) q) (O.neg (at O s 0)) (O.add (at O c (suc n)) (sin_output (suc n)))

    abbrev pub merged_two : ℕ → A
    merged_two = by_fours (λ n. at O h (2 * n)) after_even (λ n. at O h (2 * n + 1)) before_even

    unfoldable pub merge_two : List A
    merge_two = tab (4 * q) merged_two

  -- DCT-III, before the three inner ones
  module _ (q : ℕ) (x : List A) where
    unfoldable pub input_evens : List A
    input_evens = tab (2 * q) (λ m. at O x (2 * m))

    abbrev pub one_input : ℕ → A
    one_input zero = O.double (at O x 1)
    one_input (suc i) = O.add (at O x (4 * i + 3)) (at O x (4 * i + 5))

    unfoldable pub input_one : List A
    input_one = tab q one_input

    -- entry q − i is x_{4i−1} − x_{4i+1}
    abbrev pub three_input : ℕ → A
    three_input zero = O.double (at O x (4 * q - 1))
    three_input (suc m) = O.sub (at O x (4 * (q - suc m) - 1)) (at O x (4 * (q - suc m) + 1))

    unfoldable pub input_three : List A
    input_three = tab q three_input

    -- as they follow each other in scratch
    unfoldable pub split_three : List A
    split_three = input_evens ++ (input_one ++ input_three)

module _ {A : Type 0} (O : Ops A) (W : Twiddles A) where
  abbrev pub twiddle_cos : ℕ → ℕ → A
  twiddle_cos q i = W.cos (2 * i + 1) (16 * q)

  abbrev pub twiddle_sin : ℕ → ℕ → A
  twiddle_sin q i = W.sin (2 * i + 1) (16 * q)

  -- DCT-II, the inputs of the two inner ones of q entries. The sine inputs go in back to front
  module _ (q : ℕ) (x : List A) where
    abbrev pub cos_input : ℕ → A
    cos_input i = along O (lower O q x i) (upper O q x i) (twiddle_cos q i) (twiddle_sin q i)

    abbrev pub sin_input : ℕ → A
    sin_input i = turned O i (across O (lower O q x i) (upper O q x i) (twiddle_cos q i) (twiddle_sin q i))

    unfoldable pub input_dct4_even : List A
    input_dct4_even = tab q cos_input

    unfoldable pub input_dct4_odd : List A
    input_dct4_odd = back q sin_input

    -- all three as they follow each other in scratch
    unfoldable pub split_two : List A
    split_two = quarters q (half_low O q x) (half_high O q x) cos_input sin_input

  -- DCT-III, after them: e of 2q entries, a and b of q
  module _ (q : ℕ) (e a b : List A) where
    abbrev pub sine_value : ℕ → A
    sine_value i = turned O i (at O b i)

    abbrev pub lower_dct4 : ℕ → A
    lower_dct4 i = along O (at O a i) (sine_value i) (twiddle_cos q i) (twiddle_sin q i)

    -- a·sin − b·cos: the rotation across of (b, a) by the twiddle with its cosine and sine exchanged
    abbrev pub upper_dct4 : ℕ → A
    upper_dct4 i = across O (sine_value i) (at O a i) (twiddle_sin q i) (twiddle_cos q i)

    unfoldable pub merge_three : List A
    merge_three =
        quarters q (λ i. O.add (at O e i) (lower_dct4 i))
        (λ i. O.add (at O e (2 * q - 1 - i)) (upper_dct4 i))
        (λ i. O.sub (at O e (2 * q - 1 - i)) (upper_dct4 i))
        (λ i. O.sub (at O e i) (lower_dct4 i))

  -- the routines, of 2^k entries. A length halves until 2 or 1, whose leaves are the naive sums
  unfoldable pub split_dct2 : ℕ → List A → List A
  split_dct2 zero x = naive_dct2 O W x
  split_dct2 (suc zero) x = naive_dct2 O W x
  split_dct2 (suc (suc k)) x =
      merge_two O (2 ^ k) (split_dct2 (suc k) (input_dct2 O (2 ^ k) x)) (split_dct2 k (input_dct4_even (2 ^ k) x))
      (split_dct2 k (input_dct4_odd (2 ^ k) x))

  unfoldable pub split_dct3 : ℕ → List A → List A
  split_dct3 zero x = naive_dct3 O W x
  split_dct3 (suc zero) x = naive_dct3 O W x
  split_dct3 (suc (suc k)) x =
      merge_three (2 ^ k) (split_dct3 (suc k) (input_evens O (2 ^ k) x)) (split_dct3 k (input_one O (2 ^ k) x)) (split_dct3 k (input_three O (2 ^ k) x))

  -- the sines, by sign and reversal around the cosines
  unfoldable pub split_dst2 : ℕ → List A → List A
  split_dst2 zero x = naive_dst2 O W x
  split_dst2 (suc zero) x = naive_dst2 O W x
  split_dst2 (suc (suc k)) x = reversed O (split_dct2 (suc (suc k)) (alternated O x))

  unfoldable pub split_dst3 : ℕ → List A → List A
  split_dst3 zero x = naive_dst3 O W x
  split_dst3 (suc zero) x = naive_dst3 O W x
  split_dst3 (suc (suc k)) x = alternated O (split_dct3 (suc (suc k)) (reversed O x))
