-- Sums of entries times what stands at evenly spaced places of a turn: the one form that all the naive transforms share, over any numbers. Assumes nothing.
use Rattle.std.specs.Prelude.{List, ℕ, ◌+◌, ◌*◌, ◌%◌, length}
use Rattle.ring.specs.Finite.{sum_of, tab}
use Rattle.algorithms.specs.Ops.{Ops, at}

module _ {A : Type 0} (O : Ops A) (reads : ℕ → ℕ → A) (turn : ℕ) where
  -- begin + x_0·t_first + x_1·t_{first + step} + .., added up from the left, where t_a stands at a/turn of a turn; a place loses a whole turn where it passes the end
  unfoldable pub angle_sum : List A → A → ℕ → ℕ → A
  angle_sum x begin first step = sum_of O.add begin (length x) (λ i. O.mul (at O x i) (reads ((first + i * step) % turn) turn))

  -- n such sums: with each, the first place grows by firstMore and the step by stepMore
  unfoldable pub angle_sums : ℕ → List A → A → ℕ → ℕ → ℕ → ℕ → List A
  angle_sums n x begin first firstMore step stepMore = tab n (λ k. angle_sum x begin (first + k * firstMore) (step + k * stepMore))
