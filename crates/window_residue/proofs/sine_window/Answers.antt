-- `window_residue::sine_window` meets its contract: where the tests are passed the slice is filled. Assumes nothing.
use Prim.Native.Nat.{ℕ, ◌<◌}
use mathlib.Core.List.{[]}
use mathlib.Core.Path.{refl, sym, ◌∙◌, ap, subst}
use native.Mathlib.Nat.{mod-lt}
use native.Mathlib.Omega.{arith}
use lib.ListN.{length}
use Rattle.lending.proofs.Accepted.{outcome_of_ok}
use Rattle.sums.proofs.Sizes.{allowed_exponent}
use Rattle.sums.specs.Residue.{p}
use Rattle.sums.specs.Size.{exponent_of}
use Rattle.sums.specs.Window.{sine_window}
use Rattle.sums.proofs.Powers.{table_powers, powers_length}
use Rattle.window_residue.proofs.Made.{fill_passed, sine_made}
use Rattle.window_residue.proofs.sine_window.Goals as goal

pub unit-requires : goal.unit-requires
unit-requires c =
    let tests = fill_passed c.args.n c.args.window.now c.in_ok-fill_answer.ensures in
    let found = allowed_exponent 2 _ tests.0 in
    record { times = found.0; small = found.1; power = found.2 }

pub arch-requires : goal.arch-requires
arch-requires c = (
  table_powers 8192 _ refl c.table.ensures,
  ap length c.table.ensures ∙ powers_length 8192,
  omega (arith, c.unit.ensures),
  subst (λ (x : ℕ). x < p) (sym c.scaled.ensures) (mod-lt _ (omega arith)),
  (fill_passed c.args.n c.args.window.now c.in_ok-fill_answer.ensures).1,
)

pub returns : goal.returns
returns c =
    let n = c.args.n in
    let tests = fill_passed n c.args.window.now c.in_ok-fill_answer.ensures in
    outcome_of_ok 0 (λ held. sine_window (exponent_of n)) 0 c.args.window.now [] c.in_ok-fill_answer.ensures
    (c.arch.ensures ∙ sine_made n tests.0 _ c.scaled.ensures)
    refl
