-- What the inner part of a call may rely on once its tests are passed, over any numbers. Assumes nothing.
use Rattle.std.specs.Prelude.{List, ℕ, ◌*◌, ◌≤◌, length}
use Rattle.algorithms.specs.Ops.{Ops}
use Rattle.numbers.specs.Closed.{AllFit}

-- what serves twice the length of the buffer, which holds two numbers or more, and scratch for as many
pub record Lent {A W : Type 0} (O : Ops A) (Fits : A → Type 0) (serves : W → ℕ → Type 0) (by : W) (buffer : List A) (scratch : ℕ) : Type 0 where
  pub served : serves by (2 * length buffer)
  pub some : 2 ≤ length buffer
  pub numbers : AllFit O Fits buffer
  pub room : length buffer ≤ scratch
