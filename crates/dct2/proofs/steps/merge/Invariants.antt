-- Before the turn i the first 4i − 1 outputs hold their values.
use Rattle.algorithms.proofs.PartsTwo.{Merging}
use Rattle.dct2.proofs.steps.merge.Given as goal

abbrev pub invariant-loop-i : goal.invariant-loop-i
invariant-loop-i g l = Merging g.T.Number.ops l.q l.s l.initial.x l.i l.x
