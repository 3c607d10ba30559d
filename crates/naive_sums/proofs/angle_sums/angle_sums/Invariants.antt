-- Before each turn the two places are those of the next sum, and the sums so far are stored.
use Rattle.naive_sums.specs.AngleSums.{angle_sum}
use Rattle.naive_sums.proofs.Listed.{Listed}
use Rattle.naive_sums.proofs.angle_sums.angle_sums.Given as goal

abbrev pub invariant-loop-sum : goal.invariant-loop-sum
invariant-loop-sum g l =
    let O = g.T.Number.ops in
    let turn = g.C.Circle.turn l.circle in
    Listed O.none turn (angle_sum O (g.C.Circle.reads l.circle) turn l.x l.begin) l.first l.first_more l.step l.step_more l.initial.out l.sum-index l.first_now
    l.step_now l.out
