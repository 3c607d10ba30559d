-- What the inner part of a fast MDCT or IMDCT may rely on once its tests are passed, over any numbers. Assumes nothing.
use Rattle.std.specs.Prelude.{◌≡◌, List, ℕ, ◌*◌, ◌≤◌, length}
use Rattle.algorithms.specs.Ops.{Ops}
use Rattle.numbers.specs.Closed.{AllFit}

module _ {A W : Type 0} (O : Ops A) (Fits : A → Type 0) (serves : W → ℕ → Type 0) where
  -- the slices: three of n entries, a window of 2n that are numbers, and scratch for 2n; and what serves a transform of type 4 of n entries
  pub record Block (by : W) (n : ℕ) (a b c window : List A) (scratch : ℕ) : Type 0 where
    pub served : serves by (2 * n)
    pub enough : 2 ≤ n
    pub a_length : length a ≡ n
    pub b_length : length b ≡ n
    pub c_length : length c ≡ n
    pub window_length : length window ≡ 2 * n
    pub room : 2 * n ≤ scratch
    pub window_numbers : AllFit O Fits window

  -- an MDCT reads its two segments
  pub record MdctReady (by : W) (n : ℕ) (first second output window : List A) (scratch : ℕ) : Type 0 where
    pub block : Block by n first second output window scratch
    pub first_numbers : AllFit O Fits first
    pub second_numbers : AllFit O Fits second

  -- an IMDCT reads its input and adds to both outputs
  pub record ImdctReady (by : W) (n : ℕ) (input first second window : List A) (scratch : ℕ) : Type 0 where
    pub block : Block by n input first second window scratch
    pub input_numbers : AllFit O Fits input
    pub first_numbers : AllFit O Fits first
    pub second_numbers : AllFit O Fits second
