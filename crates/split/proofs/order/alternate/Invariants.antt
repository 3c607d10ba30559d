-- Before the turn k the places below 2k + 1 are as they are to be, the others as they were.
use Rattle.std.proofs.Common.{◌+◌, ◌*◌}
use Rattle.algorithms.proofs.Alternating.{Alternating}
use Rattle.split.proofs.order.alternate.Given as goal

abbrev pub invariant-loop-k : goal.invariant-loop-k
invariant-loop-k g l = Alternating g.T.Number.ops l.initial.x (2 * l.k + 1) l.x
