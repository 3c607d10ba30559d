-- `float_words::compare::cleared` meets its contract: its chain counts the entries that are like +0.0, and where all are, scratch is zeros. Assumes nothing.
use mathlib.Core.Path.{refl, sym, ◌∙◌}
use lib.Ieee.{fits}
use Rattle.std.proofs.Common.{rules, tests}
use Rattle.std.proofs.lemmas.Iterator.{YieldsList-from_slice}
use Rattle.std.proofs.lemmas.Iterator.Consumers.{YieldsList-at, YieldsList-from_filter, count_from_yields_List}
use Rattle.std.proofs.lemmas.List.Sums.{length-filter}
use Rattle.floats.specs.Arithmetic.{float_zero}
use Rattle.float_words.specs.Words.{alike}
use Rattle.float_words.proofs.Pairs.{all_one}
use Rattle.float_words.proofs.compare.cleared.Goals as goal

pub returns-clause-good : goal.returns-clause-good
unfolding fits
returns-clause-good c =
    let counted =
    count_from_yields_List _ _ c.count-good.ensures.ran
    (YieldsList-from_filter _ (λ x. alike x float_zero) (YieldsList-at c.filter.ensures.source (YieldsList-from_slice c.args.scratch.now (cc))) c.filter.ensures.closure (λ x r q k. search (rules, tests)))
    ∙ length-filter (λ x. alike x float_zero) c.args.scratch.now in
    λ all. all_one _ float_zero c.type_inv.scratch refl (sym counted ∙ sym c.of.ensures.good ∙ all ∙ c.of.ensures.all)
