-- What whatever a transform turns by keeps: a length that it serves is a power of two up to 2048, and its cosines and sines are numbers. Assumes nothing.
use Rattle.std.specs.Prelude.{◌≡◌, ℕ, ◌^◌, ◌≤◌}
use Rattle.algorithms.specs.Ops.{Twiddles}

pub record Power (n : ℕ) : Type 0 where
  pub exponent : ℕ
  pub small : exponent ≤ 11
  pub power : n ≡ 2 ^ exponent

pub record Served {A W : Type 0} (Fits : A → Type 0) (turn : W → Twiddles A) (serves : W → ℕ → Type 0) : Type 0 where
  pub power : (w : W) (n : ℕ) → serves w n → Power n
  pub cos : (w : W) (a b : ℕ) → Fits ((turn w).cos a b)
  pub sin : (w : W) (a b : ℕ) → Fits ((turn w).sin a b)
