-- Before each turn the entries passed have their sums added, and the others are as they were.
use Prim.Native.Nat.{◌+◌, ◌*◌, ◌/◌}
use Rattle.mdct_naive.proofs.Added.{Added}
use Rattle.mdct_naive.proofs.add_first.Given as goal

abbrev pub invariant-loop-k : goal.invariant-loop-k
invariant-loop-k g l =
    Added g.T.Number.ops (g.C.Circle.reads l.circle) l.n l.window l.input (λ m. l.n / 2 + m) (λ m. l.n + 2 * m + 1) (λ m. m) l.initial.output l.k l.output
