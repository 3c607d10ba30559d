use Rattle.std.proofs.Common.{arith, refl}
use Rattle.std.proofs.lemmas.List.{get_or_read}
use Rattle.places.proofs.Walked.{walked_none, walked_more}
use Rattle.naive_sums.proofs.angle_sums.angle_sum.Goals as goal

pub loop-entry-init : goal.loop-entry-init
loop-entry-init g c = record {
  walked = walked_none _ _ _ _ _ _ _ c.requires.first_below refl;
  number = c.requires.begins;
}

pub loop-entry-preserved : goal.loop-entry-preserved
loop-entry-preserved g c =
    let O = g.T.Number.ops in
    let read = get_or_read c.args.x.now c.loop-entry.entry-index _ c.loop-entry-test.true c.entry-item.is O.none in record {
      walked = walked_more c.loop-entry.invariant.walked (omega arith) (rw (read, c.at.ensures) at c.added-sum.ensures) (rw c.len.ensures at c.further-at.ensures);
      number = rw c.added-sum.ensures (g.met.T.Number.closed.add _ _);
    }
