use Rattle.std.proofs.Common.{arith, ◌∙◌, sym}
use lib.Seq.{length-take-le}
use Rattle.lending.proofs.Accepted.{accepted_small}
use Rattle.lending.proofs.Front.{cleared_again}
use Rattle.type4_plans.proofs.Accepted.{accepted_numbers, accepted_served, fast_sum}
use Rattle.type4_plans.specs.declared.Transform.TheVariants.{Dct4}
use Rattle.type4_plans.proofs.fast.dct4.Goals as goal

pub levels-requires : goal.levels-requires
levels-requires c = omega (arith, accepted_small c.requires)

pub convert-requires : goal.convert-requires
convert-requires c =
    let a = c.requires in
    record {
      served = accepted_served a c.levels.ensures.cosines c.levels.ensures.enough;
      some = omega (arith, a.whole, a.enough);
      numbers = accepted_numbers a;
      same = length-take-le c.args.n c.args.s.now a.room ∙ sym a.whole;
    }

pub returns-clause-sum : goal.returns-clause-sum
returns-clause-sum c = c.convert.ensures ∙ fast_sum c.requires Dct4

pub returns-clause-beyond : goal.returns-clause-beyond
returns-clause-beyond c =
    let front = c.convert.auto.s ∙ length-take-le c.args.n c.args.s.now c.requires.room in
    cleared_again c.args.n _ c.args.s.now front 0
