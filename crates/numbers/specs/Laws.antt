-- What the operations on residues give is below p, and on floats every value is a number. Assumes nothing.
use Prim.Native.Nat.{ℕ, ◌+◌, ◌%◌, ◌<◌}
use native.Mathlib.Nat as Nat
use native.Mathlib.Omega.{arith}
use lib.Ieee.{Float}
use Rattle.std.specs.Prelude.{⊤}
use Rattle.sums.specs.Residue.{p}
use Rattle.algorithms.specs.Residues.{residue_ops}
use Rattle.floats.specs.Arithmetic.{float_ops}
use Rattle.numbers.specs.Closed.{Closed}

reduced : (a : ℕ) → a % p < p
reduced a = Nat.mod-lt a (omega arith)

pub residues_closed : Closed residue_ops (λ (a : ℕ). a < p)
residues_closed = record {
  none = omega arith;
  nought = omega arith;
  add = λ a b. reduced (a + b);
  sub = λ a b. Nat.mod-lt _ (omega arith);
  mul = λ a b. Nat.mod-lt _ (omega arith);
  neg = λ a. Nat.mod-lt _ (omega arith);
  double = λ a. Nat.mod-lt _ (omega arith);
  halve = λ a. Nat.mod-lt _ (omega arith);
}

pub floats_closed : Closed float_ops (λ (a : Float). ⊤)
floats_closed = record {
  none = tt;
  nought = tt;
  add = λ a b. tt;
  sub = λ a b. tt;
  mul = λ a b. tt;
  neg = λ a. tt;
  double = λ a. tt;
  halve = λ a. tt;
}
