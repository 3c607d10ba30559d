use Rattle.std.proofs.Common.{arith}
use Rattle.naive_sums.specs.AngleSums.{angle_sums}
use Rattle.naive_sums.proofs.Turns.{angle_sum_turns}
use Rattle.naive_sums.proofs.Listed.{listed_more, listed_all}
use Rattle.naive_sums.proofs.angle_sums.angle_sums.Goals as goal

pub loop-sum-preserved : goal.loop-sum-preserved
loop-sum-preserved g c =
    listed_more c.loop-sum.invariant (angle_sum_turns _ _ _ _ _) (omega arith) c.angle_sum.ensures (rw c.len-turn.ensures at c.further-first_now.ensures)
    (rw c.len-turn.ensures at c.further-step_now.ensures)

pub returns : goal.returns
unfolding angle_sums
returns g c = listed_all c.loop-sum.invariant (omega (arith, c.loop-sum-test.false, c.loop-sum.invariant.filled.same))
