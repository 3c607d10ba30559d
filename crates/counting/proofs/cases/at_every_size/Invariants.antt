-- `counting::cases::at_every_size` meets its contract: what is counted from here on is the rest of the whole. Assumes nothing.
use Rattle.std.specs.Prelude.{ℕ, leb, drop}
use Rattle.std.specs.List.{filter, FoldsTo}
use Rattle.counting.specs.declared.count.Tally.{Tally}
use Rattle.counting.specs.Sizes.{sizes, sizes_from, CountsAt, SumsUp}
use Rattle.counting.proofs.cases.at_every_size.Given as goal

abbrev pub invariant-loop-n : goal.invariant-loop-n
invariant-loop-n g l =
    let counts : ℕ → Tally → Type 0 = λ n tally. g.F.Fn.post l.test (n, tt) tally in
    (all : Tally) → FoldsTo (CountsAt counts) l.sum (filter (λ n. leb l.least n) (drop l.n-index sizes)) all → SumsUp counts (sizes_from l.least) all
