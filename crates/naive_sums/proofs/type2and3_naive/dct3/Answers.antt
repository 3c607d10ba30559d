use Rattle.naive_sums.proofs.Sums.{rest_ready}
use Rattle.naive_sums.proofs.type2and3_naive.dct3.Goals as goal

pub angle_sums-requires : goal.angle_sums-requires
angle_sums-requires g c = rest_ready g.met.C.Circle.circled c.requires (rw c.halved-half.ensures (g.met.T.Number.closed.halve _))
