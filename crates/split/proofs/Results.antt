-- What the inner transforms are given and what they leave are numbers: the inputs of a step of DCT-II (fit_half, fit_cosines, fit_sines) and of DCT-III (fit_evens, fit_one,
-- fit_three), and the results of DCT-II, DCT-III and DST-III (fit_dct2, fit_dct3, fit_dst3). Over any arithmetic that is closed. Assumes nothing.
use mathlib.Core.Bool.{Bool, true, false, cond}
use mathlib.Core.List.{List}
use Prim.Native.Nat.{ℕ, zero, suc, ◌+◌, ◌*◌, ◌-◌, ◌^◌, ◌%◌, ◌/◌}
use lib.Dec.{eqb}
use lib.ListN.{length}
use Rattle.ring.specs.Finite.{sum_of}
use Rattle.sums.specs.Size.{exponent_of}
use Rattle.algorithms.specs.Ops.{Ops, Twiddles, at}
use Rattle.algorithms.specs.Lists.{quarters, pick_four, by_fours, reversed}
use Rattle.algorithms.specs.Naive.{naive_dct2, naive_dct3, naive_dst3}
use Rattle.algorithms.specs.Split.{half_low, half_high, input_dct2, input_dct4_even, input_dct4_odd, after_even, before_even, merge_two, one_input, three_input, input_evens, input_one, input_three, merge_three, split_dct2, split_dct3, split_dst3}
use Rattle.algorithms.specs.Fast.{dct2_fast, dct3_fast, dst3_fast}
use Rattle.numbers.specs.Closed.{Closed, AllFit}
use Rattle.split.proofs.Numbers.{fit_tab, fit_back, fit_append, fit_at, fit_turned, fit_alternated}

module _ {A : Type 0} {O : Ops A} {Fits : A → Type 0} (closed : Closed O Fits) where
  sum_fits : (first : A) → Fits first → (n : ℕ) (f : ℕ → A) → Fits (sum_of O.add first n f)
  unfolding sum_of
  sum_fits first fits zero f = fits
  sum_fits first fits (suc n) f = closed.add _ _

  -- the inputs of a step, and what is left of its results
  module _ (W : Twiddles A) (q : ℕ) (x : List A) where
    pub fit_half : AllFit O Fits (input_dct2 O q x)
    unfolding input_dct2
    fit_half =
        fit_append _ _ (fit_tab q (half_low O q x) (λ k. closed.add _ _)) (fit_back q (half_high O q x) (λ k. closed.add _ _))

    pub fit_cosines : AllFit O Fits (input_dct4_even O W q x)
    unfolding input_dct4_even
    fit_cosines = fit_tab q _ (λ k. closed.add _ _)

    pub fit_sines : AllFit O Fits (input_dct4_odd O W q x)
    unfolding input_dct4_odd
    fit_sines = fit_back q _ (λ k. fit_turned closed k _ (closed.sub _ _))

    pub fit_evens : AllFit O Fits x → AllFit O Fits (input_evens O q x)
    unfolding input_evens
    fit_evens numbers = fit_tab (2 * q) _ (λ k. fit_at closed x numbers (2 * k))

    one_fits : (k : ℕ) → Fits (one_input O q x k)
    one_fits zero = closed.double _
    one_fits (suc k) = closed.add _ _

    pub fit_one : AllFit O Fits (input_one O q x)
    unfolding input_one
    fit_one = fit_tab q (one_input O q x) one_fits

    three_fits : (k : ℕ) → Fits (three_input O q x k)
    three_fits zero = closed.double _
    three_fits (suc k) = closed.sub _ _

    pub fit_three : AllFit O Fits (input_three O q x)
    unfolding input_three
    fit_three = fit_tab q (three_input O q x) three_fits

  four_fit : (a b c d : ℕ → A) → ((n : ℕ) → Fits (a n)) → ((n : ℕ) → Fits (b n)) → ((n : ℕ) → Fits (c n)) → ((n : ℕ) → Fits (d n)) → (r n : ℕ)
      → Fits (pick_four a b c d r n)
  four_fit a b c d fa fb fc fd zero n = fa n
  four_fit a b c d fa fb fc fd (suc zero) n = fb n
  four_fit a b c d fa fb fc fd (suc (suc zero)) n = fc n
  four_fit a b c d fa fb fc fd (suc (suc (suc r))) n = fd n

  fit_merged : (q : ℕ) (h c s : List A) → AllFit O Fits h → AllFit O Fits c → AllFit O Fits (merge_two O q h c s)
  unfolding merge_two by_fours
  fit_merged q h c s halves cosines =
      fit_tab (4 * q) _
      (λ m.
      four_fit (λ n. at O h (2 * n)) (after_even O q h c s) (λ n. at O h (2 * n + 1)) (before_even O q h c s) (λ n. fit_at closed h halves (2 * n)) after
      (λ n. fit_at closed h halves (2 * n + 1)) (λ n. chosen (eqb (suc n) q) (closed.neg _) (closed.add _ _)) (m % 4) (m / 4))
    where
      after : (n : ℕ) → Fits (after_even O q h c s n)
      after zero = fit_at closed c cosines 0
      after (suc n) = closed.sub _ _

      chosen : (b : Bool) {u v : A} → Fits u → Fits v → Fits (cond b u v)
      chosen true first second = first
      chosen false first second = second

  fit_quarters : (q : ℕ) (a b c d : ℕ → A) → ((n : ℕ) → Fits (a n)) → ((n : ℕ) → Fits (b n)) → ((n : ℕ) → Fits (c n)) → ((n : ℕ) → Fits (d n))
      → AllFit O Fits (quarters q a b c d)
  unfolding quarters
  fit_quarters q a b c d fa fb fc fd =
      fit_append _ _ (fit_tab q a fa) (fit_append _ _ (fit_back q b fb) (fit_append _ _ (fit_tab q c fc) (fit_back q d fd)))

  module _ (W : Twiddles A) where
    fit_naive_two : (x : List A) → AllFit O Fits (naive_dct2 O W x)
    unfolding naive_dct2
    fit_naive_two x = fit_tab (length x) _ (λ k. sum_fits O.nought closed.nought (length x) _)

    fit_split_two : (e : ℕ) (x : List A) → AllFit O Fits (split_dct2 O W e x)
    unfolding split_dct2
    fit_split_two zero x = fit_naive_two x
    fit_split_two (suc zero) x = fit_naive_two x
    fit_split_two (suc (suc k)) x = fit_merged (2 ^ k) _ _ _ (fit_split_two (suc k) _) (fit_split_two k _)

    pub fit_dct2 : (x : List A) → AllFit O Fits (dct2_fast O W x)
    unfolding dct2_fast
    fit_dct2 x = fit_split_two (exponent_of (length x)) x

    fit_naive_three : (x : List A) → AllFit O Fits (naive_dct3 O W x)
    unfolding naive_dct3
    fit_naive_three x = fit_tab (length x) _ (λ k. sum_fits (O.halve (at O x 0)) (closed.halve _) (length x - 1) _)

    fit_split_three : (e : ℕ) (x : List A) → AllFit O Fits (split_dct3 O W e x)
    unfolding split_dct3 merge_three
    fit_split_three zero x = fit_naive_three x
    fit_split_three (suc zero) x = fit_naive_three x
    fit_split_three (suc (suc k)) x =
        fit_quarters (2 ^ k) _ _ _ _ (λ n. closed.add _ _) (λ n. closed.add _ _) (λ n. closed.sub _ _) (λ n. closed.sub _ _)

    pub fit_dct3 : (x : List A) → AllFit O Fits (dct3_fast O W x)
    unfolding dct3_fast
    fit_dct3 x = fit_split_three (exponent_of (length x)) x

    fit_naive_sines : (x : List A) → AllFit O Fits (naive_dst3 O W x)
    unfolding naive_dst3
    fit_naive_sines x = fit_tab (length x) _ (λ k. sum_fits O.nought closed.nought (length x) _)

    fit_split_sines : (e : ℕ) (x : List A) → AllFit O Fits (split_dst3 O W e x)
    unfolding split_dst3
    fit_split_sines zero x = fit_naive_sines x
    fit_split_sines (suc zero) x = fit_naive_sines x
    fit_split_sines (suc (suc k)) x = fit_alternated closed _ (fit_split_three (suc (suc k)) (reversed O x))

    pub fit_dst3 : (x : List A) → AllFit O Fits (dst3_fast O W x)
    unfolding dst3_fast
    fit_dst3 x = fit_split_sines (exponent_of (length x)) x
