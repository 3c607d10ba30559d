use Rattle.std.proofs.Common.{arith, ◌≡◌, ◌∙◌, ap, sym, ℕ, suc, ◌*◌, ◌^◌}
use native.Mathlib.Nat as Nat
use Rattle.ring.specs.Part.{cleared}
use Rattle.floats.specs.Arithmetic.{float_zero}
use Rattle.floats.proofs.Accepted.{size_doubled}
use Rattle.type4_float.proofs.calls.run.Goals as goal

pub unit-unit-requires : goal.unit-unit-requires
unit-unit-requires c = size_doubled c.requires.size

pub in_place-requires : goal.in_place-requires
in_place-requires c =
    let a = c.requires in
    record {
      served = record {
        whole = ap (λ (m : ℕ). c.unit-unit.result * (4 * (2 * m))) a.whole ∙ omega (arith, c.unit-unit.ensures) ∙ sym a.cosines_length;
        same = a.sines_length ∙ sym a.cosines_length;
        turn = a.cosines_length;
        exponent = suc a.size.exponent;
        power = omega (arith, a.whole, a.size.power, Nat.pow-suc 2 a.size.exponent);
      };
      some = omega (arith, a.whole, a.size.enough);
      numbers = record { each = λ k l. tt };
      room = omega (arith, a.whole, a.room);
    }

pub returns : goal.returns
returns c = (
  c.in_place.ensures.0,
  c.in_place.ensures.1 ∙ ap (λ (n : ℕ). cleared float_zero n c.args.scratch.now) c.requires.whole,
)
