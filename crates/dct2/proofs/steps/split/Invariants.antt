-- The four places of each turn passed hold their values.
use Rattle.algorithms.specs.Split.{half_low, half_high, cos_input, sin_input}
use Rattle.algorithms.proofs.Stores.{Quartered}
use Rattle.dct2.proofs.steps.split.Given as goal

abbrev pub invariant-loop-i : goal.invariant-loop-i
invariant-loop-i g l =
    let O = g.T.Number.ops in
    let turn = g.W.Turns.turn l.by in
    Quartered O.none l.q (half_low O l.q l.x) (half_high O l.q l.x) (cos_input O turn l.q l.x) (sin_input O turn l.q l.x) l.i l.s
