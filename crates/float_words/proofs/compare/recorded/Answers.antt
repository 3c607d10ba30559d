-- `float_words::compare::recorded` meets its contract: its chain counts the floats that are like their words', and where all are, the floats are the words'. Assumes nothing.
use mathlib.Core.Path.{sym, ◌∙◌}
use Rattle.std.proofs.Common.{rules, tests}
use Rattle.std.specs.List.{zip}
use Rattle.std.proofs.lemmas.Iterator.{YieldsList-from_slice, YieldsList-from_zip}
use Rattle.std.proofs.lemmas.Iterator.Consumers.{YieldsList-at, YieldsList-from_filter, count_from_yields_List}
use Rattle.std.proofs.lemmas.List.Sums.{length-filter}
use Rattle.float_words.specs.Words.{alike, float_of}
use Rattle.float_words.proofs.Pairs.{all_recorded}
use Rattle.float_words.proofs.compare.recorded.Goals as goal

pub returns-clause-good : goal.returns-clause-good
returns-clause-good c =
    let counted =
    count_from_yields_List _ _ c.count-good.ensures.ran
    (YieldsList-from_filter _ (λ q. alike q.0 (float_of q.1)) (YieldsList-at c.filter.ensures.source (YieldsList-from_zip (YieldsList-from_slice c.args.got.now (cc)) (YieldsList-from_slice c.args.words.now (cc)))) c.filter.ensures.closure (λ x r q k. search (rules, tests)))
    ∙ length-filter (λ q. alike q.0 (float_of q.1)) (zip c.args.got.now c.args.words.now) in
    λ all. all_recorded _ _ c.requires c.type_inv.got (sym counted ∙ sym c.of.ensures.good ∙ all ∙ c.of.ensures.all)
