use Rattle.std.proofs.Common.{arith, ◌∙◌, ap, ℕ}
use Rattle.ring.specs.Part.{cleared}
use Rattle.lending.proofs.Accepted.{accepted_small}
use Rattle.type2and3_plans.proofs.Accepted.{fast_sum}
use Rattle.type2and3_plans.proofs.fast.transform.Goals as goal

pub levels-table-requires : goal.levels-table-requires
levels-table-requires c = omega (arith, accepted_small c.requires)

pub returns : goal.returns
returns c = (
  c.in_place.ensures.0 ∙ fast_sum c.requires c.args.which,
  c.in_place.ensures.1 ∙ ap (λ (n : ℕ). cleared 0 n c.args.scratch.now) c.requires.whole,
)
