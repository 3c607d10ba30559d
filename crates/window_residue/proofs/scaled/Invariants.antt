-- `window_residue::scaled` meets its contract. The loop's invariant: the value was multiplied as often as the loop was gone round. Assumes nothing.
use Prim.Native.Nat.{◌*◌, ◌^◌, ◌%◌}
use mathlib.Core.Path.{◌≡◌}
use Rattle.sums.specs.Residue.{p}
use Rattle.window_residue.proofs.scaled.Given as goal

abbrev pub invariant-loop : goal.invariant-loop
invariant-loop l = l.value ≡ l.first * l.factor ^ l.counter % p
