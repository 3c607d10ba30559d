-- `lending::sound` meets its contract: each entry is found sound or not, and all of them are sound exactly where each is. Assumes nothing.
use mathlib.Core.Bool.{true, ◌&&◌}
use mathlib.Core.Path.{◌∙◌}
use borrow.Author.Tests.{tests}
use Rattle.std.specs.Prelude.{nat_lt}
use Rattle.std.proofs.Common.{rules}
use Rattle.std.proofs.lemmas.Iterator.{YieldsList-from_slice}
use Rattle.std.proofs.lemmas.Iterator.Consumers.{fold_from_yields_List}
use Rattle.sums.specs.Residue.{p}
use Rattle.lending.proofs.Bad.{all_sound}
use Rattle.lending.proofs.sound.Goals as goal

pub returns : goal.returns
returns c =
    fold_from_yields_List _ (λ sound y. sound && nat_lt y p) true c.fold.result c.fold.ensures.ran (YieldsList-from_slice c.args.entries.now cc)
    (λ sound y b q k. search (rules, tests))
    ∙ all_sound true c.args.entries.now
