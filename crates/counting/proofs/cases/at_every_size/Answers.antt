-- `counting::cases::at_every_size` meets its contract: each turn takes the size at hand, or leaves it out where it is below the least. Assumes nothing.
use Rattle.std.proofs.Common.{ℕ, Bool, leb}
use Rattle.std.proofs.lemmas.Bool.{le-leb, lt-leb}
use Rattle.counting.specs.declared.count.Tally.{Tally}
use Rattle.counting.specs.Sizes.{sizes, sizes_from}
use Rattle.counting.proofs.Sizes.{size_taken, size_left_out, sizes_ended, from_nothing}
use Rattle.counting.proofs.cases.at_every_size.Goals.{then-least-n, else-least-n}
use Rattle.counting.proofs.cases.at_every_size.Goals as goal

pub loop-n-init : goal.loop-n-init
loop-n-init g c all counted =
    from_nothing (λ n tally. g.F.Fn.post c.args.test (n, tt) tally) (sizes_from c.args.least) c.default-sum.result all c.default-sum.ensures counted

pub loop-n-preserved : goal.loop-n-preserved
loop-n-preserved g c all counted =
    let counts : ℕ → Tally → Type 0 = λ n tally. g.F.Fn.post c.args.test (n, tt) tally in
    let test : ℕ → Bool = λ n. leb c.args.least n in
    elim c.if-least-n.branch [
      | then-least-n w ↦
          c.loop-n.invariant all
          (size_taken counts test sizes c.loop-n.n-index c.loop-n-test.true (le-leb _ _ w.if-least-n.true) c.loop-n.sum w.add_assign.new.self c.if-least-n.sum all (w.test.result, w.test.ensures, w.add_assign.ensures.after) w.sum-is counted)
      | else-least-n w ↦
          c.loop-n.invariant all
          (size_left_out counts test sizes c.loop-n.n-index c.loop-n-test.true (lt-leb _ _ w.if-least-n.false) c.loop-n.sum c.if-least-n.sum all w.sum-is counted)
    ]

pub returns : goal.returns
returns g c =
    c.loop-n.invariant c.loop-n.sum
    (sizes_ended (λ n tally. g.F.Fn.post c.args.test (n, tt) tally) (λ n. leb c.args.least n) sizes c.loop-n.n-index c.loop-n-test.false c.loop-n.sum)
