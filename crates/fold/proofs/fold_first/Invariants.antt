-- The places passed hold what is stored.
use Rattle.ring.proofs.Filled.{Filled}
use Rattle.algorithms.specs.Fold.{high_fold}
use Rattle.fold.proofs.fold_first.Given as goal

abbrev pub invariant-loop-t : goal.invariant-loop-t
invariant-loop-t g l = Filled g.T.Number.ops.none (high_fold g.T.Number.ops l.g l.window l.first) l.initial.out l.t l.out
