-- `window_residue::test_window` meets its contract: past the first three tests the window's own test decides. Assumes nothing.
use native.Mathlib.Omega.{arith}
use Rattle.lending.proofs.Accepted.{entries_passed}
use Rattle.sums.proofs.Sizes.{allowed_sooner}
use Rattle.window_residue.proofs.test_window.Goals as goal

pub accepted-requires : goal.accepted-requires
accepted-requires c =
    let n = c.args.n in
    let tests = entries_passed _ n _ 0 _ c.args.window.now c.in_ok-entries_answer.ensures in
    (tests.1, allowed_sooner 2 _ n (omega arith) tests.0, tests.3)
