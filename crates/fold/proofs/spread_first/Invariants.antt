-- The places passed in both halves hold what is stored.
use Rattle.algorithms.proofs.StepFold.{SpreadingFirst}
use Rattle.fold.proofs.spread_first.Given as goal

abbrev pub invariant-loop-t : goal.invariant-loop-t
invariant-loop-t g l = SpreadingFirst g.T.Number.ops l.g l.window l.d l.initial.out l.t l.out
