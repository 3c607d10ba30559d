use Rattle.algorithms.proofs.StepFold.{first_all}
use Rattle.fold.proofs.spread_first.Goals as goal

pub returns : goal.returns
returns g c = first_all c.loop-t.invariant c.loop-t-test.false
