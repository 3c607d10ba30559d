-- What the fold and the spread ask of what they are lent, over any numbers. Assumes nothing.
use Rattle.std.specs.Prelude.{◌≡◌, List, ℕ, ◌*◌, ◌≤◌, length}
use Rattle.algorithms.specs.Ops.{Ops}
use Rattle.numbers.specs.Closed.{AllFit}

-- x has 2g entries and the window w has 4g, all of them numbers
pub record Segment {A : Type 0} (O : Ops A) (Fits : A → Type 0) (g : ℕ) (x w : List A) : Type 0 where
  pub small : g ≤ 512
  pub numbers : AllFit O Fits x
  pub window_numbers : AllFit O Fits w
  pub x_length : length x ≡ 2 * g
  pub window_length : length w ≡ 4 * g
