-- `Joining`: the four places of each turn passed hold their values. The three results are parts of one list, and each value is read at its place in it.
use Prim.Native.Nat.{◌*◌}
use Rattle.ring.specs.Part.{part}
use Rattle.algorithms.proofs.StepThree.{Joining}
use Rattle.dct3.proofs.steps.merge.Given as goal

abbrev pub invariant-loop-i : goal.invariant-loop-i
invariant-loop-i g l =
    Joining g.T.Number.ops (g.W.Turns.turn l.by) l.q (part 0 (2 * l.q) l.s) (part (2 * l.q) (3 * l.q) l.s) (part (3 * l.q) (4 * l.q) l.s) l.i l.x
