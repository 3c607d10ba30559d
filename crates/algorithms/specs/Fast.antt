-- The fast routines by the length of what they are given, a power of two up to 2048: split radix, type 4 over it, and mdct_via_dct4.rs over that. Assumes nothing.
use Rattle.std.specs.Prelude.{List, ℕ, ◌-◌, ◌/◌, length}
use Rattle.sums.specs.Size.{exponent_of}
use Rattle.algorithms.specs.Ops.{Ops, Twiddles}
use Rattle.algorithms.specs.Split.{split_dct2, split_dst2, split_dct3, split_dst3}
use Rattle.algorithms.specs.Four.{fast_dct4, fast_dst4}
use Rattle.algorithms.specs.Fold.{folded, spread_first, spread_second}

module _ {A : Type 0} (O : Ops A) (W : Twiddles A) where
  unfoldable pub dct2_fast : List A → List A
  dct2_fast x = split_dct2 O W (exponent_of (length x)) x

  unfoldable pub dst2_fast : List A → List A
  dst2_fast x = split_dst2 O W (exponent_of (length x)) x

  unfoldable pub dct3_fast : List A → List A
  dct3_fast x = split_dct3 O W (exponent_of (length x)) x

  unfoldable pub dst3_fast : List A → List A
  dst3_fast x = split_dst3 O W (exponent_of (length x)) x

  -- from 2 entries on: twice as many as the inner transforms have
  unfoldable pub dct4_fast : List A → List A
  dct4_fast x = fast_dct4 O W (exponent_of (length x) - 1) x

  unfoldable pub dst4_fast : List A → List A
  dst4_fast x = fast_dst4 O W (exponent_of (length x) - 1) x

  -- MDCT of two segments of N under the window w
  unfoldable pub mdct_fast : ℕ → List A → List A → List A → List A
  mdct_fast N w first second = dct4_fast (folded O (N / 2) w first second)

  -- IMDCT of the input, added to what either output holds
  unfoldable pub imdct_fast_first : ℕ → List A → List A → List A → List A
  imdct_fast_first N w input held = spread_first O (N / 2) w (dct4_fast input) held

  unfoldable pub imdct_fast_second : ℕ → List A → List A → List A → List A
  imdct_fast_second N w input held = spread_second O (N / 2) w (dct4_fast input) held
