-- `Pairing`: the two places of each turn passed hold their values.
use Rattle.algorithms.proofs.StoresFour.{Pairing}
use Rattle.dct4.proofs.steps.split_dct4.Given as goal

abbrev pub invariant-loop-k : goal.invariant-loop-k
invariant-loop-k g l =
    let O = g.T.Number.ops in
    Pairing O l.m l.x O.add O.sub 0 l.m l.k l.s
