-- `window_residue::unit_power` meets its contract: the first quarter beside the first half read backwards stands for all. Assumes nothing.
use Prim.Native.Nat.{◌/◌}
use mathlib.Core.Path.{◌≡◌}
use lib.ListN.{take}
use borrow.Author.Tests.{tests}
use Rattle.std.proofs.Common.{rules}
use Rattle.std.proofs.lemmas.Iterator.{YieldsList-from_slice, YieldsList-from_zip, cases_from_all}
use Rattle.std.proofs.lemmas.Iterator.Adapters.{YieldsList-from_rev_slice, serves_from_places}
use Rattle.window_residue.proofs.Rules.{left, quarter_below, power_is}
use Rattle.window_residue.proofs.unit_power.Goals as goal

pub all-requires-clause-callable : goal.all-requires-clause-callable
all-requires-clause-callable c =
    let a = c.args in
    let half = take a.n a.window.now in
    serves_from_places (YieldsList-from_zip (YieldsList-from_slice (take (a.n / 2) half) cc) (YieldsList-from_rev_slice half cc))
    (λ x q k. search (rules, tests))
    (λ x k below is. let small = quarter_below a.n a.share a.window.now c.requires.1 c.requires.3 c.requires.4 c.requires.0 c.requires.2 k _ below is in search rules)

pub returns : goal.returns
returns c =
    let a = c.args in
    let half = take a.n a.window.now in
    let rest = left a.n a.share a.window.now c.requires.1 c.requires.3 c.requires.4 c.requires.0 in
    power_is a.n a.share a.window.now c.requires.1 c.requires.3 c.requires.4 c.requires.0 c.all.result
    (cases_from_all c.all.new.self _ c.all.result (λ pair. rest pair ≡ 0) (λ pair. rest pair ≡ 0 → ⊥) c.all.ensures.ran
    (YieldsList-from_zip (YieldsList-from_slice (take (a.n / 2) half) cc) (YieldsList-from_rev_slice half cc))
    (λ x q k. search (rules, tests))
    (λ x q k. search (rules, tests)))
