-- The loop that merges the three inner DCT-III of split radix: its turn i stores at i, 2q − 1 − i, 2q + i and 4q − 1 − i what it makes of four results and of the
-- twiddle at i. The law takes values with equations, so that code that finds them anywhere can cite it. Over any type of entry. Assumes nothing.
use mathlib.Core.Path.{◌≡◌}
use mathlib.Core.List.{List}
use Prim.Native.Nat.{ℕ, ◌+◌, ◌*◌, ◌-◌, ◌<◌, ◌≤◌}
use lib.ListN.{length, set}
use Rattle.algorithms.specs.Ops.{Ops, Twiddles, at}
use Rattle.algorithms.specs.Lists.{turned}
use Rattle.algorithms.specs.Split.{along, across, twiddle_cos, twiddle_sin, lower_dct4, upper_dct4, merge_three}
use Rattle.algorithms.proofs.Stores.{Quartered, quartered_none, quartered_more, quartered_all}

-- e is of 2q entries, a and b are of q
pub record Joining {A : Type 0} (O : Ops A) (W : Twiddles A) (q : ℕ) (e a b : List A) (i : ℕ) (out : List A) : Type 0 where
  pub quartered : Quartered O.none q (λ k. O.add (at O e k) (lower_dct4 O W q e a b k))
      (λ k. O.add (at O e (2 * q - 1 - k)) (upper_dct4 O W q e a b k))
      (λ k. O.sub (at O e (2 * q - 1 - k)) (upper_dct4 O W q e a b k))
      (λ k. O.sub (at O e k) (lower_dct4 O W q e a b k)) i out

pub joining_none : {A : Type 0} (O : Ops A) (W : Twiddles A) (q : ℕ) (e a b : List A) {out : List A} → length out ≡ 4 * q → Joining O W q e a b 0 out
joining_none O W q e a b size = record { quartered = quartered_none O.none q _ _ _ _ size }

module _ {A : Type 0} {O : Ops A} {W : Twiddles A} {q : ℕ} {e a b : List A} {i : ℕ} {out : List A} (joining : Joining O W q e a b i out) where
  pub joining_more : {lower upper cosine sine cos sin s t u v : A} → i < q
      → lower ≡ at O e i → upper ≡ at O e (2 * q - 1 - i) → cosine ≡ at O a i → sine ≡ at O b i
      → cos ≡ twiddle_cos O W q i → sin ≡ twiddle_sin O W q i
      → s ≡ O.add lower (along O cosine (turned O i sine) cos sin) → t ≡ O.add upper (across O (turned O i sine) cosine sin cos)
      → u ≡ O.sub upper (across O (turned O i sine) cosine sin cos) → v ≡ O.sub lower (along O cosine (turned O i sine) cos sin)
      → Joining O W q e a b (i + 1) (set (set (set (set out i s) (2 * q - 1 - i) t) (2 * q + i) u) (4 * q - 1 - i) v)
  joining_more below is-lower is-upper is-cosine is-sine is-cos is-sin is-first is-second is-third is-fourth =
      record { quartered = quartered_more joining.quartered below (cc) (cc) (cc) (cc) }

  pub joining_all : q ≤ i → out ≡ merge_three O W q e a b
  unfolding merge_three
  joining_all past = quartered_all joining.quartered past
