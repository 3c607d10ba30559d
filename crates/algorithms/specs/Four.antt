-- type4_convert_to_type3.rs: DCT-IV and DST-IV of 2m entries by a DCT-III and a DST-III of m, on lists and in the Rust's order of operations. Names follow the
-- Rust. The twiddle at k is the cosine and the sine at (2k + 1)/(16m) of a turn, as split radix has it at the quarter length m. Assumes nothing.
use Rattle.std.specs.Prelude.{cond, List, ◌++◌, ℕ, zero, suc, ◌+◌, ◌*◌, ◌-◌, ◌^◌, eqb}
use Rattle.ring.specs.Finite.{tab}
use Rattle.algorithms.specs.Ops.{Ops, Twiddles, at}
use Rattle.algorithms.specs.Lists.{back}
use Rattle.algorithms.specs.Split.{along, across, twiddle_cos, twiddle_sin, split_dct3, split_dst3}

module _ {A : Type 0} (O : Ops A) (m : ℕ) (x : List A) where
  -- the last entry doubled, or what the entries 2k + 1 and 2k + 2 give
  abbrev pub last_doubled : (A → A → A) → ℕ → A
  last_doubled op k = cond (eqb (suc k) m) (O.double (at O x (2 * m - 1))) (op (at O x (2 * k + 1)) (at O x (2 * k + 2)))

  -- the first entry doubled, or what the entries 2k − 1 and 2k give
  abbrev pub first_doubled : (A → A → A) → ℕ → A
  first_doubled op zero = O.double (at O x 0)
  first_doubled op (suc k) = op (at O x (2 * k + 1)) (at O x (2 * k + 2))

  -- DCT-IV: output_left and output_right as they go into the inner DCT-III and DST-III
  unfoldable pub left_dct4 : List A
  left_dct4 = tab m (first_doubled O.add)

  unfoldable pub right_dct4 : List A
  right_dct4 = tab m (last_doubled O.sub)

  -- DST-IV: into the inner DST-III and DCT-III
  unfoldable pub left_dst4 : List A
  left_dst4 = tab m (last_doubled O.add)

  unfoldable pub right_dst4 : List A
  right_dst4 = tab m (first_doubled (λ a b. O.sub b a))

module _ {A : Type 0} (O : Ops A) (W : Twiddles A) where
  -- after the two inner ones: left and right of m entries. The outputs k and 2m − 1 − k
  module _ (m : ℕ) (left right : List A) where
    abbrev pub output : ℕ → A
    output k = along O (at O left k) (at O right k) (twiddle_cos O W m k) (twiddle_sin O W m k)

    -- left · sin − right · cos
    abbrev pub mirrored_dct4 : ℕ → A
    mirrored_dct4 k = across O (at O right k) (at O left k) (twiddle_sin O W m k) (twiddle_cos O W m k)

    -- right · cos − left · sin
    abbrev pub mirrored_dst4 : ℕ → A
    mirrored_dst4 k = across O (at O left k) (at O right k) (twiddle_cos O W m k) (twiddle_sin O W m k)

    unfoldable pub merge_dct4 : List A
    merge_dct4 = tab m output ++ back m mirrored_dct4

    unfoldable pub merge_dst4 : List A
    merge_dst4 = tab m output ++ back m mirrored_dst4

  -- the routines, of 2m entries, over any two that serve as the DCT-III and the DST-III of m entries: the Rust's inner_dct
  module _ (dct3 dst3 : List A → List A) (m : ℕ) (x : List A) where
    unfoldable pub dct4_by : List A
    dct4_by = merge_dct4 m (dct3 (left_dct4 O m x)) (dst3 (right_dct4 O m x))

    unfoldable pub dst4_by : List A
    dst4_by = merge_dst4 m (dst3 (left_dst4 O m x)) (dct3 (right_dst4 O m x))

  -- over split radix, of 2 · 2^k entries
  unfoldable pub fast_dct4 : ℕ → List A → List A
  fast_dct4 k x = dct4_by (split_dct3 O W k) (split_dst3 O W k) (2 ^ k) x

  unfoldable pub fast_dst4 : ℕ → List A → List A
  fast_dst4 k x = dst4_by (split_dct3 O W k) (split_dst3 O W k) (2 ^ k) x
