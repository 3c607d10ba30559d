-- Before each turn the place is that of the next term, and the sum that of the terms so far, a number.
use Rattle.std.proofs.Common.{length}
use Rattle.places.proofs.Walked.{Walked}
use Rattle.naive_sums.proofs.Turns.{angle_term}
use Rattle.naive_sums.proofs.angle_sums.angle_sum.Given as goal

abbrev pub invariant-loop-entry : goal.invariant-loop-entry
invariant-loop-entry g l =
    let O = g.T.Number.ops in
    let turn = g.C.Circle.turn l.circle in record {
      walked : Walked O.add l.fn.begin turn (length l.x) l.first l.step (angle_term O (g.C.Circle.reads l.circle) turn l.x) l.entry-index l.at l.sum;
      number : g.T.Number.Fits l.sum;
    }
