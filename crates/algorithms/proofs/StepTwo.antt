-- DCT-II's step over any arithmetic. The split's result is the three inner inputs (split_two_is), and a turn of its loop stores `cos_input` and `sin_input`
-- (cos_input_is, sin_input_is). The merge fills its output from the front: three stores before the loop (merged_start), four in each turn (merged_more) and
-- one after it (merged_end). What is stored is a variable, with an equation that says what it is. Assumes nothing.
use mathlib.Core.Path.{◌≡◌, refl, sym, ◌∙◌, ap, ap₂}
use mathlib.Core.Bool.{Bool, cond}
use mathlib.Core.List.{List, ◌++◌, append_assoc}
use Prim.Native.Nat.{ℕ, zero, suc, ◌+◌, ◌*◌, ◌-◌, ◌<◌, ◌≤◌}
use native.Mathlib.Nat as Nat
use native.Mathlib.Numerals.{add-one}
use native.Mathlib.Omega.{arith}
use borrow.Author.Tests.{eq-eqb, ne_eqb}
use lib.ListN.{length, set}
use Rattle.ring.specs.Finite.{tab}
use Rattle.ring.proofs.Filled.{Filled, filled_none, filled_more, filled_all}
use Rattle.algorithms.specs.Ops.{Ops, Twiddles, at}
use Rattle.algorithms.specs.Lists.{back, quarters, turned}
use Rattle.algorithms.specs.Split.{along, across, lower, upper, half_low, half_high, input_dct2, twiddle_cos, twiddle_sin, cos_input, sin_input, input_dct4_even, input_dct4_odd, split_two, sin_output, after_even, before_even, merged_two, merge_two}
use Rattle.algorithms.proofs.Lists.{by_fours_zero, by_fours_one, by_fours_two, by_fours_three}

pub split_two_is : {A : Type 0} (O : Ops A) (W : Twiddles A) (q : ℕ) (x : List A)
    → split_two O W q x ≡ input_dct2 O q x ++ (input_dct4_even O W q x ++ input_dct4_odd O W q x)
unfolding split_two quarters input_dct2 input_dct4_even input_dct4_odd
split_two_is O W q x =
    sym (append_assoc (tab q (half_low O q x)) (back q (half_high O q x)) (tab q (cos_input O W q x) ++ back q (sin_input O W q x)))

module _ {A : Type 0} (O : Ops A) (W : Twiddles A) (q : ℕ) (x : List A) (i : ℕ) {cos sin v : A} (cos-is : cos ≡ twiddle_cos O W q i)
    (sin-is : sin ≡ twiddle_sin O W q i) where
  pub cos_input_is : v ≡ along O (lower O q x i) (upper O q x i) cos sin → v ≡ cos_input O W q x i
  cos_input_is is = is ∙ ap₂ (along O (lower O q x i) (upper O q x i)) cos-is sin-is

  pub sin_input_is : v ≡ turned O i (across O (lower O q x i) (upper O q x i) cos sin) → v ≡ sin_input O W q x i
  sin_input_is is = is ∙ ap₂ (λ (c s : A). turned O i (across O (lower O q x i) (upper O q x i) c s)) cos-is sin-is

module _ {A : Type 0} (O : Ops A) (q : ℕ) (h c s : List A) where
  -- the entries of the merge
  merged_zero : (n : ℕ) → merged_two O q h c s (4 * n) ≡ at O h (2 * n)
  merged_zero n = by_fours_zero _ _ _ _ n

  merged_one : (n : ℕ) → merged_two O q h c s (4 * n + 1) ≡ after_even O q h c s n
  merged_one n = by_fours_one _ _ _ _ n

  merged_two_is : (n : ℕ) → merged_two O q h c s (4 * n + 2) ≡ at O h (2 * n + 1)
  merged_two_is n = by_fours_two _ _ _ _ n

  merged_three : (n : ℕ) → merged_two O q h c s (4 * suc n - 1) ≡ before_even O q h c s n
  merged_three n =
      let place : 4 * suc n - 1 ≡ 4 * n + 3 = omega arith in
      ap (merged_two O q h c s) place ∙ by_fours_three _ _ _ _ n

  after_one : (i : ℕ) → 1 ≤ i → merged_two O q h c s (4 * i + 1) ≡ O.sub (at O c i) (sin_output O q h c s i)
  after_one zero some = absurd (Nat.not-suc-le-zero some)
  after_one (suc n) some = merged_one (suc n)

  before_one : (i : ℕ) → 1 ≤ i → i < q → merged_two O q h c s (4 * i - 1) ≡ O.add (at O c i) (sin_output O q h c s i)
  before_one zero some below = absurd (Nat.not-suc-le-zero some)
  before_one (suc n) some below =
      let inside = ne_eqb (suc n) q (λ e. omega arith) in
      merged_three n ∙ ap (λ (t : Bool). cond t (O.neg (at O s 0)) (O.add (at O c (suc n)) (sin_output O q h c s (suc n)))) inside

  last_one : 1 ≤ q → merged_two O q h c s (4 * q - 1) ≡ O.neg (at O s 0)
  last_one some =
      let n = q - 1 in
      let all : q ≡ suc n = omega arith in
      ap (λ (m : ℕ). merged_two O q h c s (4 * m - 1)) all ∙ merged_three n
      ∙ ap (λ (t : Bool). cond t (O.neg (at O s 0)) (O.add (at O c (suc n)) (sin_output O q h c s (suc n)))) (eq-eqb (suc n) q (sym all))

  pub sin_output_is : (i : ℕ) {v w : A} → v ≡ turned O (i + q + 1) w → w ≡ at O s (q - i) → v ≡ sin_output O q h c s i
  sin_output_is i is entry = is ∙ ap₂ (turned O) (add-one (i + q)) entry

  -- one store more, at the place that comes next
  onward : {d out : List A} {k m : ℕ} {v : A} → Filled O.none (merged_two O q h c s) d k out → k ≡ m → m < length d → v ≡ merged_two O q h c s m
      → Filled O.none (merged_two O q h c s) d (m + 1) (set out m v)
  onward filled next below is = filled_more (rw next at filled) (omega (arith, filled.same)) is

  pub record Merged (d : List A) (i : ℕ) (out : List A) : Type 0 where
    pub some : 1 ≤ i
    pub within : i ≤ q
    pub size : length d ≡ 4 * q
    pub filled : Filled O.none (merged_two O q h c s) d (4 * i - 1) out

  -- the three stores before the loop, from where the loop starts
  pub merged_start : (d : List A) {u v w : A} → 1 ≤ q → length d ≡ 4 * q → u ≡ at O h 0 → v ≡ at O c 0 → w ≡ at O h 1
      → Merged (set (set (set d 0 u) 1 v) 2 w) 1 (set (set (set d 0 u) 1 v) 2 w)
  merged_start d some size is_zero is_one is-two =
      let zero = onward (filled_none O.none (merged_two O q h c s) d) refl (omega arith) (is_zero ∙ sym (merged_zero 0)) in
      let one = onward zero refl (omega arith) (is_one ∙ sym (merged_one 0)) in
      let two = onward one refl (omega arith) (is-two ∙ sym (merged_two_is 0)) in
      record {
        some = omega arith;
        within = some;
        size = two.same ∙ size;
        filled = record {
          within = omega (arith, two.same);
          same = refl;
          done = two.done;
          kept = λ m above. refl;
        };
      }

  module _ {d : List A} {i : ℕ} {out : List A} (merged : Merged d i out) where
    -- a and b are the cosine's and the sine's output
    pub merged_more : {a b t u v w : A} → i < q → a ≡ at O c i → b ≡ sin_output O q h c s i → t ≡ O.add a b → u ≡ at O h (2 * i)
        → v ≡ O.sub a b → w ≡ at O h (2 * i + 1)
        → Merged d (i + 1) (set (set (set (set out (4 * i - 1) t) (4 * i) u) (4 * i + 1) v) (4 * i + 2) w)
    merged_more below a-is b-is is-before is_zero is-after is-two =
        let before = onward merged.filled refl (omega (arith, merged.size)) (is-before ∙ ap₂ O.add a-is b-is ∙ sym (before_one i merged.some below)) in
        let zero = onward before (omega (arith, merged.some)) (omega (arith, merged.size)) (is_zero ∙ sym (merged_zero i)) in
        let one = onward zero refl (omega (arith, merged.size)) (is-after ∙ ap₂ O.sub a-is b-is ∙ sym (after_one i merged.some)) in
        let two = onward one (omega arith) (omega (arith, merged.size)) (is-two ∙ sym (merged_two_is i)) in
        let next : 4 * i + 2 + 1 ≡ 4 * (i + 1) - 1 = omega arith in
        record {
          some = omega arith;
          within = omega arith;
          size = merged.size;
          filled = rw next at two;
        }

    pub merged_end : {a v : A} → q ≤ i → a ≡ at O s 0 → v ≡ O.neg a → set out (4 * q - 1) v ≡ merge_two O q h c s
    unfolding merge_two
    merged_end past a-is is =
        let last : i ≡ q = omega (arith, merged.within) in
        let some : 1 ≤ q = omega (arith, merged.some) in
        let all = onward merged.filled (ap (λ (m : ℕ). 4 * m - 1) last) (omega (arith, merged.size)) (is ∙ ap O.neg a-is ∙ sym (last_one some)) in
        filled_all all (omega (arith, all.same, merged.size)) ∙ ap (λ (n : ℕ). tab n (merged_two O q h c s)) merged.size
