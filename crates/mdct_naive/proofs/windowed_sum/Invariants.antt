-- Before each turn the place is that of the next term, and the sum that of the terms so far, a number.
use Rattle.std.proofs.Common.{length}
use Rattle.places.proofs.Walked.{Walked}
use Rattle.mdct_naive.proofs.Numbers.{windowed_term}
use Rattle.mdct_naive.proofs.windowed_sum.Given as goal

abbrev pub invariant-loop-entry : goal.invariant-loop-entry
invariant-loop-entry g l =
    let O = g.T.Number.ops in
    let turn = g.C.Circle.turn l.circle in record {
      walked : Walked O.add l.fn.begin turn (length l.x) l.first l.step (windowed_term O (g.C.Circle.reads l.circle) turn l.window l.x) (length l.yielded) l.at l.sum;
      number : g.T.Number.Fits l.sum;
    }
