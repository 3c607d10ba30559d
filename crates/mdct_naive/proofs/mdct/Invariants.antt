-- Before each turn the outputs so far are stored, and the place is where the next sum begins.
use Rattle.mdct_naive.proofs.Gathered.{Gathered}
use Rattle.mdct_naive.proofs.mdct.Given as goal

abbrev pub invariant-loop-k : goal.invariant-loop-k
invariant-loop-k g l = Gathered g.T.Number.ops (g.C.Circle.reads l.circle) l.n l.window l.first l.second l.initial.output l.k l.place l.output
