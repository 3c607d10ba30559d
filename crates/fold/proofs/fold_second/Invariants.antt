-- The places passed hold what is stored.
use Rattle.ring.proofs.Filled.{Filled}
use Rattle.algorithms.specs.Fold.{low_fold}
use Rattle.fold.proofs.fold_second.Given as goal

abbrev pub invariant-loop-i : goal.invariant-loop-i
invariant-loop-i g l = Filled g.T.Number.ops.none (low_fold g.T.Number.ops l.g l.window l.second) l.initial.out l.i l.out
