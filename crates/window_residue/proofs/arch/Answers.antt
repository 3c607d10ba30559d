use Prim.Native.Nat.{ℕ, ◌+◌, ◌*◌, ◌%◌, ◌<◌}
use mathlib.Core.Path.{◌≡◌, sym, ◌∙◌, ap, subst}
use native.Mathlib.Omega.{arith}
use lib.ListN.{length}
use Rattle.ring.proofs.Filled.{filled_more, filled_all}
use Rattle.ring.specs.Finite.{tab}
use Rattle.sums.specs.Angle.{sin_turn}
use Rattle.sums.specs.Residue.{p}
use Rattle.sums.proofs.Angles.{sin_below}
use Rattle.window_residue.proofs.Made.{place_below, arch_value}
use Rattle.window_residue.proofs.arch.Goals as goal

pub overflow_mul-i-in-loop-i : goal.overflow_mul-i-in-loop-i
overflow_mul-i-in-loop-i c =
    record { fits = omega (arith, place_below c.args.n c.args.unit c.requires.2 c.loop-i.i (omega arith)) }

pub sine-requires : goal.sine-requires
sine-requires c =
    let whole : length c.args.table.now ≡ 8192 = c.requires.1 in (
      c.requires.0,
      (omega (arith, place_below c.args.n c.args.unit c.requires.2 c.loop-i.i (omega arith)), omega arith),
    )

pub times-requires : goal.times-requires
times-requires c = (subst (λ (x : ℕ). x < p) (sym c.sine.ensures) (sin_below _), c.requires.3)

pub loop-i-preserved : goal.loop-i-preserved
loop-i-preserved c =
    let loop = c.loop-i in
    filled_more loop.invariant (omega arith)
    (arch_value c.args.n c.args.unit c.requires.2 loop.i c.args.factor _ _ _ c.requires.1 c.sine.ensures c.times.ensures)

pub returns : goal.returns
returns c =
    filled_all c.loop-i.invariant (omega arith)
    ∙ ap (λ (k : ℕ). tab k (λ i. sin_turn (2 * i + 1) (8 * c.args.n) * c.args.factor % p)) c.requires.4
