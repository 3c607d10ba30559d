use Rattle.algorithms.proofs.StepFold.{second_all}
use Rattle.fold.proofs.spread_second.Goals as goal

pub returns : goal.returns
returns g c = second_all c.loop-t.invariant c.loop-t-test.false
