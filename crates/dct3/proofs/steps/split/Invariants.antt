-- `Splitting`: the four places of each turn passed hold their values.
use Rattle.algorithms.proofs.StoresThree.{Splitting}
use Rattle.dct3.proofs.steps.split.Given as goal

abbrev pub invariant-loop-i : goal.invariant-loop-i
invariant-loop-i g l = Splitting g.T.Number.ops l.q l.x l.i l.s
