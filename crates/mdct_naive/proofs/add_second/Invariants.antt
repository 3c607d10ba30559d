-- Before each turn the entries passed have their sums added, and the others are as they were.
use Prim.Native.Nat.{◌+◌, ◌*◌, ◌-◌, ◌/◌}
use Rattle.algorithms.specs.Block.{mirrored}
use Rattle.naive_sums.specs.Circled.{read_table}
use Rattle.mdct_naive.proofs.Added.{Added}
use Rattle.mdct_naive.proofs.add_second.Given as goal

abbrev pub invariant-loop-k : goal.invariant-loop-k
invariant-loop-k g l =
    let O = g.T.Number.ops in
    let reads = g.C.Circle.reads l.circle in
    let at = mirrored O l.n (read_table reads (4 * l.n)) l.window in
    Added O reads l.n l.window l.input (λ m. 2 * l.n + l.n / 2 - 1 - at m) (λ m. l.n - 1 - 2 * at m) (λ m. l.n + m) l.initial.output l.k l.output
