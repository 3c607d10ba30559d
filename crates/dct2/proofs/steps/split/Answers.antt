use Rattle.std.proofs.Common.{arith}
use Rattle.algorithms.specs.Split.{split_two}
use Rattle.algorithms.proofs.Stores.{quartered_all}
use Rattle.dct2.proofs.steps.split.Goals as goal

pub returns : goal.returns
unfolding split_two
returns g c = quartered_all c.loop-i.invariant (omega (arith, c.loop-i-test.false))
