-- `Merging`: the two places of each turn passed hold their values. The two results are parts of one list, and each value is read at its place in it.
use Prim.Native.Nat.{◌*◌}
use Rattle.ring.specs.Part.{part}
use Rattle.algorithms.proofs.StoresFour.{Merging, rest_dct4}
use Rattle.dct4.proofs.steps.merge_dct4.Given as goal

abbrev pub invariant-loop-k : goal.invariant-loop-k
invariant-loop-k g l =
    let O = g.T.Number.ops in
    Merging O (g.W.Turns.turn l.by) (rest_dct4 O) l.m (part 0 l.m l.s) (part l.m (2 * l.m) l.s) l.k l.x
