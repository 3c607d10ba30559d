-- The places passed in both halves hold what is stored.
use Rattle.algorithms.proofs.StepFold.{SpreadingSecond}
use Rattle.fold.proofs.spread_second.Given as goal

abbrev pub invariant-loop-t : goal.invariant-loop-t
invariant-loop-t g l = SpreadingSecond g.T.Number.ops l.g l.window l.d l.initial.out l.t l.out
