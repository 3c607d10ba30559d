-- mdct_naive.rs: MDCT and IMDCT of N by their sums, term by term in the Rust's order, N even. The table t holds 4N cosines, entry i at (2i + 1)/(8N) of a turn, and the
-- window w has 2N entries. The Rust walks its table by an index that loses the table's length where it passes the end. Over residues these are document 01's sums, as
-- `algorithms.proofs.Block` shows. Assumes nothing.
use Rattle.std.specs.Prelude.{cond, List, ◌++◌, ℕ, ◌+◌, ◌*◌, ◌-◌, ◌%◌, ◌/◌, ltb}
use Rattle.ring.specs.Finite.{sum_of, tab}
use Rattle.algorithms.specs.Ops.{Ops, at}

module _ {A : Type 0} (O : Ops A) (N : ℕ) (t w : List A) where
  -- the cosine at a place, whole turns taken off
  abbrev pub cosine_at : ℕ → A
  cosine_at place = at O t (place % (4 * N))

  -- (x·w)·t over both segments, one after the other, begun with zero
  unfoldable pub naive_mdct : List A → List A → List A
  naive_mdct first second =
      tab N
      (λ k.
      sum_of O.add O.nought (2 * N)
      (λ i. O.mul (O.mul (at O (first ++ second) i) (at O w i)) (cosine_at (N / 2 + k * (N + 1) + i * (2 * k + 1)))))

  -- a sum over the input, begun with zero, whose places begin at start and go on by stride
  abbrev pub input_sum : List A → ℕ → ℕ → A
  input_sum input start stride = sum_of O.add O.nought N (λ i. O.mul (at O input i) (cosine_at (start + i * stride)))

  -- under the window it is added to what the first output holds
  unfoldable pub naive_imdct_first : List A → List A → List A
  naive_imdct_first input held =
      tab N (λ k. O.add (at O held k) (O.mul (input_sum input (N / 2 + k) (N + 2 * k + 1)) (at O w k)))

  -- the second output takes the places of a mirrored index for its second half
  abbrev pub mirrored : ℕ → ℕ
  mirrored k = cond (ltb k (N / 2)) k (N - 1 - k)

  unfoldable pub naive_imdct_second : List A → List A → List A
  naive_imdct_second input held =
      tab N
      (λ k. O.add (at O held k) (O.mul (input_sum input (2 * N + N / 2 - 1 - mirrored k) (N - 1 - 2 * mirrored k)) (at O w (N + k))))
