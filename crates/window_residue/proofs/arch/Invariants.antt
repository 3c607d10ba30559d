-- `window_residue::arch` meets its contract. The loop's invariant: the first i entries hold their values. Assumes nothing.
use Prim.Native.Nat.{◌+◌, ◌*◌, ◌%◌}
use Rattle.ring.proofs.Filled.{Filled}
use Rattle.sums.specs.Angle.{sin_turn}
use Rattle.sums.specs.Residue.{p}
use Rattle.window_residue.proofs.arch.Given as goal

abbrev pub invariant-loop-i : goal.invariant-loop-i
invariant-loop-i l = Filled 0 (λ k. sin_turn (2 * k + 1) (8 * l.n) * l.factor % p) l.initial.window l.i l.window
