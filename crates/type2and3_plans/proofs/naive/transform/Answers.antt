use Rattle.std.proofs.Common.{◌∙◌, ap, ℕ}
use Rattle.ring.specs.Part.{cleared}
use Rattle.type2and3_plans.proofs.Accepted.{naive_sum}
use Rattle.type2and3_plans.proofs.naive.transform.Goals as goal

pub returns : goal.returns
returns c = (
  c.in_place.ensures.0 ∙ naive_sum c.requires _ c.unit.ensures c.table-powers.ensures c.args.which,
  c.in_place.ensures.1 ∙ ap (λ (n : ℕ). cleared 0 n c.args.scratch.now) c.requires.whole,
)
