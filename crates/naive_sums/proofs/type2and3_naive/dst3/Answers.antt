use Rattle.std.proofs.Common.{arith, rules}
use Rattle.naive_sums.proofs.Sums.{room, angle_sum_fits, dst3_is}
use Rattle.naive_sums.proofs.Turns.{one_more_turns, one_more_is}
use Rattle.naive_sums.proofs.Listed.{listed_none, listed_more, listed_all}
use Rattle.naive_sums.proofs.type2and3_naive.dst3.Goals as goal

pub loop-value-init : goal.loop-value-init
loop-value-init g c =
    let r = room g.met.C.Circle.circled c.requires in
    listed_none _ _ _ _ _ (omega (arith, r.fits, r.more)) (omega (arith, r.fits, r.more, r.some, c.requires.whole))

pub added-requires : goal.added-requires
added-requires g c =
    let closed = g.met.T.Number.closed in
    (search (rules, angle_sum_fits closed), search (rules, closed.halve, c.requires.numbers.each), search (rules, g.met.C.Circle.circled.number))

pub loop-value-preserved : goal.loop-value-preserved
loop-value-preserved g c =
    listed_more c.loop-value.invariant (one_more_turns _ _ _ _ _) (omega arith)
    (one_more_is _ _ _ _ _ c.zero.ensures c.angle_sum-sum.ensures c.loop-value.invariant.step_below c.at.ensures c.added.ensures)
    (rw c.len-turn.ensures at c.further-step.ensures) (rw c.len-turn.ensures at c.further-place.ensures)

pub returns : goal.returns
returns g c =
    dst3_is g.met.C.Circle.circled c.requires (search rules) c.halved-half.ensures
    (listed_all c.loop-value.invariant (omega (arith, c.loop-value-test.false, c.loop-value.invariant.filled.same)))
