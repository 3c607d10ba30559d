use Rattle.std.proofs.Common.{arith}
use Rattle.mdct_naive.proofs.Gathered.{second_ready, gathered_more, gathered_all}
use Rattle.mdct_naive.proofs.mdct.Goals as goal

pub windowed_sum-requires : goal.windowed_sum-requires
windowed_sum-requires g c =
    second_ready c.requires c.loop-k.invariant g.met.T.Number.closed (omega arith) c.zero.ensures c.windowed_sum-begun.ensures c.after_segment-later.ensures

pub loop-k-preserved : goal.loop-k-preserved
loop-k-preserved g c =
    gathered_more c.requires c.loop-k.invariant (omega arith) c.zero.ensures c.windowed_sum-begun.ensures c.after_segment-later.ensures c.windowed_sum.ensures
    c.further-place.ensures

pub returns : goal.returns
returns g c = gathered_all c.requires c.loop-k.invariant (omega arith)
