-- `window_residue::flat_window` meets its contract: where the tests are passed the slice is filled. Assumes nothing.
use mathlib.Core.List.{[]}
use mathlib.Core.Path.{◌≡◌, refl, ◌∙◌}
use lib.ListN.{length, replicate}
use Rattle.lending.proofs.Accepted.{outcome_of_ok}
use Rattle.sums.specs.Size.{exponent_of}
use Rattle.sums.specs.Window.{flat_window}
use Rattle.window_residue.proofs.Made.{fill_passed, flat_made}
use Rattle.window_residue.proofs.flat_window.Goals as goal

pub returns : goal.returns
returns c =
    let n = c.args.n in
    let w = c.args.window.now in
    let tests = fill_passed n w c.in_ok-fill_answer.ensures in
    outcome_of_ok 0 (λ held. flat_window (exponent_of n)) 0 w [] c.in_ok-fill_answer.ensures
    (let filled : c.fill.new.self ≡ replicate (length w) c.scaled.result = c.fill.ensures.after (λ y same. same) in filled ∙ flat_made n tests.0 w _ tests.1 c.scaled.ensures)
    refl
