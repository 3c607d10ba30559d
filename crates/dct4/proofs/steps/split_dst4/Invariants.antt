-- `Pairing`: the two places of each turn passed hold their values.
use Rattle.algorithms.proofs.StoresFour.{Pairing}
use Rattle.dct4.proofs.steps.split_dst4.Given as goal

abbrev pub invariant-loop-k : goal.invariant-loop-k
invariant-loop-k g l =
    let O = g.T.Number.ops in
    Pairing O l.m l.x (λ a b. O.sub b a) O.add l.m 0 l.k l.s
