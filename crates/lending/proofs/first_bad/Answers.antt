-- `lending::first_bad` meets its contract: what the search finds is what is promised. Assumes nothing.
use Prim.Native.Nat.{◌≤◌, ◌<◌}
use borrow.Author.Tests.{tests}
use Rattle.std.proofs.Common.{rules}
use Rattle.std.proofs.lemmas.Iterator.{IsFirst-from_position, YieldsList-from_slice}
use Rattle.sums.specs.Residue.{p}
use Rattle.lending.proofs.Bad.{found_is}
use Rattle.lending.proofs.first_bad.Goals as goal

pub returns : goal.returns
returns c =
    found_is c.args.entries.now c.position.result
    (IsFirst-from_position _ _ _ (λ y. p ≤ y) (λ y. y < p) c.position.ensures.ran (YieldsList-from_slice c.args.entries.now cc)
    (λ y q k. search (rules, tests))
    (λ y q k. search (rules, tests)))
