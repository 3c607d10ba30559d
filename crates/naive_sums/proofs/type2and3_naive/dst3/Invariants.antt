-- Before each turn the two places are those of the next output, and the outputs so far are stored.
use Rattle.std.proofs.Common.{◌*◌, length}
use Rattle.naive_sums.proofs.Turns.{one_more}
use Rattle.naive_sums.proofs.Listed.{Listed}
use Rattle.naive_sums.proofs.type2and3_naive.dst3.Given as goal

abbrev pub invariant-loop-value : goal.invariant-loop-value
invariant-loop-value g l =
    let O = g.T.Number.ops in
    let turn = g.C.Circle.turn l.circle in
    Listed O.none turn (one_more O (g.C.Circle.reads l.circle) turn l.x l.half) l.unit (2 * l.unit) (length l.x * l.unit) (2 * length l.x * l.unit) l.initial.out
    l.value-index l.step l.place l.out
