-- A factor of a number above 0 is above 0, and no larger than the number. Assumes nothing.
use mathlib.Core.Path.{◌≡◌}
use Prim.Native.Nat.{ℕ, zero, suc, ◌*◌, ◌<◌, ◌≤◌}
use native.Mathlib.Omega.{arith}

pub factor_positive : (s n m : ℕ) → s * n ≡ m → 0 < m → 0 < n
factor_positive s zero m e positive = omega arith
factor_positive s (suc n) m e positive = omega arith

pub factor_bound : (s n m : ℕ) → s * n ≡ m → 0 < m → n ≤ m
factor_bound zero n m e positive = omega arith
factor_bound (suc s) n m e positive = omega arith
