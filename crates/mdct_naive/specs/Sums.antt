-- The sum of the naive MDCT over one segment as its loop walks it: from a first place on by a step, whole turns taken off. Over any numbers. Assumes nothing.
use Rattle.std.specs.Prelude.{List, ℕ, ◌+◌, ◌*◌, ◌%◌, length}
use Rattle.ring.specs.Finite.{sum_of}
use Rattle.algorithms.specs.Ops.{Ops, at}

module _ {A : Type 0} (O : Ops A) (reads : ℕ → ℕ → A) (turn : ℕ) where
  -- begin + (x_0·w_0)·t_first + (x_1·w_1)·t_{first + step} + .., added up from the left, where t_a stands at a/turn of a turn
  unfoldable pub windowed_sum : List A → List A → A → ℕ → ℕ → A
  windowed_sum w x begin first step =
      sum_of O.add begin (length x) (λ i. O.mul (O.mul (at O x i) (at O w i)) (reads ((first + i * step) % turn) turn))
