use mathlib.Core.Path.{◌∙◌}
use native.Mathlib.Omega.{arith}
use Rattle.ring.proofs.Filled.{filled_none, filled_more, filled_next, filled_all}
use Rattle.sums.specs.Transform.{times_half_length}
use Rattle.counting.proofs.Products.{factor_reduced}
use Rattle.counting.proofs.entries.scale.Goals as goal

pub loop-entry-init : goal.loop-entry-init
loop-entry-init c = record { factor = omega (arith, c.reduce-factor.ensures); scaled = filled_none 0 _ _ }

pub loop-entry-preserved : goal.loop-entry-preserved
loop-entry-preserved c =
    let before = c.loop-entry.invariant in
    record {
      factor = before.factor;
      scaled = filled_more before.scaled (omega arith) (c.times.ensures ∙ rw (filled_next before.scaled, before.factor) (factor_reduced _ _));
    }

pub returns : goal.returns
unfolding times_half_length
returns c = filled_all c.loop-entry.invariant.scaled (omega arith)
