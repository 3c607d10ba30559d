use mathlib.Core.Path.{sym, ◌∙◌}
use Rattle.split.proofs.Numbers.{fit_reversed}
use Rattle.split.proofs.Parts.{step_ready}
use Rattle.split.proofs.Results.{fit_dct3}
use Rattle.dct3.proofs.Inner.{sines_turned}
use Rattle.dct3.proofs.type2and3_splitradix.dst3.Goals as goal

pub dct3-requires : goal.dct3-requires
dct3-requires g c =
    let kept = c.reverse.auto.x in
    record {
      served = rw kept c.requires.served;
      numbers = rw c.reverse.ensures (fit_reversed c.args.x.now c.requires.numbers);
      same = c.requires.same ∙ sym kept;
    }

pub alternate-requires : goal.alternate-requires
alternate-requires g c = rw c.dct3.ensures (fit_dct3 g.met.T.Number.closed (g.W.Turns.turn c.args.by) c.reverse.new.x)

pub returns-else-x-le2 : goal.returns-else-x-le2
returns-else-x-le2 g c =
    let law = g.met.W.Turns.served in
    sines_turned g.met.T.Number.closed law (step_ready law c.requires c.if-x-le2.false) c.reverse.ensures c.dct3.ensures c.alternate.ensures
