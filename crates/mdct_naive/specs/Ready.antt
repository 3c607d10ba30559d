-- What the inner functions ask of what they are lent. Assumes nothing.
use Rattle.std.specs.Prelude.{◌≡◌, List, ℕ, ◌*◌, ◌%◌, ◌≤◌, length}
use Rattle.algorithms.specs.Ops.{Ops}
use Rattle.numbers.specs.Closed.{AllFit}
use Rattle.naive_sums.specs.Ready.{SumReady}

module _ {A C : Type 0} (O : Ops A) (Fits : A → Type 0) (turn : C → ℕ) (sound : C → Type 0) where
  -- one sum over a segment: what a sum asks for, and numbers to weigh each entry by
  pub record WindowReady (circle : C) (window x : List A) (begin : A) (first step : ℕ) : Type 0 where
    pub sum : SumReady O Fits turn sound circle x begin first step
    pub weighed : length x ≤ length window
    pub weights : AllFit O Fits window

  -- a turn of 4n places, n even and from 2 to 1024, and a window of 2n numbers
  pub record Turned (circle : C) (n : ℕ) (window : List A) : Type 0 where
    pub circles : sound circle
    pub whole : turn circle ≡ 4 * n
    pub even : n % 2 ≡ 0
    pub enough : 2 ≤ n
    pub small : n ≤ 1024
    pub window_length : length window ≡ 2 * n
    pub weights : AllFit O Fits window

  -- one half of an IMDCT: n numbers to read, and n to add to
  pub record AddReady (circle : C) (n : ℕ) (input output window : List A) : Type 0 where
    pub turned : Turned circle n window
    pub input_length : length input ≡ n
    pub output_length : length output ≡ n
    pub input_numbers : AllFit O Fits input
    pub output_numbers : AllFit O Fits output

  -- an MDCT reads its two segments
  pub record MdctReady (circle : C) (n : ℕ) (first second output window : List A) : Type 0 where
    pub turned : Turned circle n window
    pub first_length : length first ≡ n
    pub second_length : length second ≡ n
    pub output_length : length output ≡ n
    pub first_numbers : AllFit O Fits first
    pub second_numbers : AllFit O Fits second

  -- an IMDCT reads its input and adds to both outputs
  pub record ImdctReady (circle : C) (n : ℕ) (input first second window : List A) : Type 0 where
    pub adds_first : AddReady circle n input first window
    pub adds_second : AddReady circle n input second window
