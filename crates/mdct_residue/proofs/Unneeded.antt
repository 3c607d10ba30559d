-- A naive call needs no scratch: any length of it has room (none_needed). Assumes nothing.
use Prim.Native.Nat.{ℕ, ◌*◌, ◌≤◌}
use native.Mathlib.Nat.{zero-mul}
use native.Mathlib.Omega.{arith}

pub none_needed : (n scratchLength : ℕ) → 0 * n ≤ scratchLength
none_needed n scratchLength = omega (arith, zero-mul n)
