use Rattle.std.proofs.Common.{arith}
use Rattle.algorithms.proofs.Alternating.{alternating_all}
use Rattle.split.proofs.order.alternate.Goals as goal

pub returns : goal.returns
returns g c = alternating_all c.loop-k.invariant (omega arith)
