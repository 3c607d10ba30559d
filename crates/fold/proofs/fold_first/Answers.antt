use Rattle.std.proofs.Common.{arith}
use Rattle.ring.proofs.Filled.{filled_all}
use Rattle.fold.proofs.fold_first.Goals as goal

pub returns : goal.returns
returns g c = rw c.requires.1 at (filled_all c.loop-t.invariant (omega (arith, c.loop-t.auto.out, c.requires.1, c.loop-t-test.false)))
