-- `float_words::words::push_words` meets its contract: its chunks are the words, and each turn reads the first that is left. Assumes nothing.
use Rattle.std.proofs.Common.{rules, arith, ◌≡◌, ◌-◌, ◌++◌, ◌∙◌, ap, length}
use Rattle.float_words.proofs.Read.{first_words, all_words, one_read, all_read}
use Rattle.float_words.proofs.words.push_words.Goals as goal

pub loop-word-init : goal.loop-word-init
loop-word-init g c =
    let room : c.remaining_capacity.result ≡ g.row.N - length c.args.words.now.items = omega (arith, c.remaining_capacity.ensures) in
    (rw (← first_words (g.row.N - length c.args.words.now.items) c.args.bytes.now) (rw (← room) (search rules)), search rules)

pub loop-word-preserved : goal.loop-word-preserved
loop-word-preserved g c =
    let step = c.in-Some.ensures.steps in
    (one_read _ _ _ _ _ _ _ _ step.0 step.1 (search rules) c.loop-word.invariant.0, search rules)

pub returns-clause-first : goal.returns-clause-first
returns-clause-first g c = all_read _ _ _ _ (λ left. (c.in-None.ensures.steps left).0) c.loop-word.invariant.0

pub returns-clause-all : goal.returns-clause-all
returns-clause-all g c room =
    returns-clause-first g c
    ∙ ap (λ l. c.args.words.now.items ++ l) (all_words (g.row.N - length c.args.words.now.items) c.args.bytes.now (omega (arith, room)))
