-- A length that is 1, doubled at most ten times. Assumes nothing.
use Rattle.std.specs.Prelude.{◌≡◌, ℕ, ◌^◌, ◌≤◌}

pub record Doubled (n : ℕ) : Type 0 where
  pub times : ℕ
  pub small : times ≤ 10
  pub power : n ≡ 2 ^ times
