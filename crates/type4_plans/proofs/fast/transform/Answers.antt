use Rattle.std.proofs.Common.{arith, ◌∙◌, ap, ℕ}
use Rattle.ring.specs.Part.{cleared}
use Rattle.lending.proofs.Accepted.{accepted_small}
use Rattle.type4_plans.proofs.Accepted.{accepted_numbers, accepted_served, fast_sum}
use Rattle.type4_plans.proofs.fast.transform.Goals as goal

pub levels-table-requires : goal.levels-table-requires
levels-table-requires c = omega (arith, accepted_small c.requires)

pub in_place-requires : goal.in_place-requires
in_place-requires c =
    let a = c.requires in
    record {
      served = accepted_served a c.levels-table.ensures.cosines c.levels-table.ensures.enough;
      some = omega (arith, a.whole, a.enough);
      numbers = accepted_numbers a;
      room = omega (arith, a.whole, a.room);
    }

pub returns : goal.returns
returns c = (
  c.in_place.ensures.0 ∙ fast_sum c.requires c.args.which,
  c.in_place.ensures.1 ∙ ap (λ (n : ℕ). cleared 0 n c.args.scratch.now) c.requires.whole,
)
