-- `window_residue::symmetric` meets its contract: the first half beside the whole read backwards stands for all. Assumes nothing.
use Prim.Native.Nat.{ℕ}
use mathlib.Core.Bool.{true, ◌&&◌}
use mathlib.Core.Path.{◌∙◌}
use lib.ListN.{take}
use borrow.Author.Tests.{tests}
use Rattle.std.specs.Prelude.{nat_eq}
use Rattle.std.proofs.Common.{rules}
use Rattle.std.proofs.lemmas.Iterator.{YieldsList-from_slice, YieldsList-from_zip}
use Rattle.std.proofs.lemmas.Iterator.Adapters.{YieldsList-from_rev_slice}
use Rattle.std.proofs.lemmas.Iterator.Consumers.{fold_from_yields_List}
use Rattle.window_residue.proofs.Rules.{symmetric_is}
use Rattle.window_residue.proofs.symmetric.Goals as goal

pub returns : goal.returns
returns c =
    let w = c.args.window.now in
    fold_from_yields_List _ (λ same (pair : ℕ × ℕ). same && nat_eq pair.0 pair.1) true c.fold.result c.fold.ensures.ran
    (YieldsList-from_zip (YieldsList-from_slice (take c.args.n w) cc) (YieldsList-from_rev_slice w cc))
    (λ same pair b q k. search (rules, tests))
    ∙ symmetric_is c.args.n w c.requires
