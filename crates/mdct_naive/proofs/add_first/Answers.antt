use Rattle.std.proofs.Common.{◌<◌, length, arith}
use Rattle.std.proofs.lemmas.List.{get_or_default, get_or_read}
use Rattle.algorithms.specs.Block.{naive_imdct_first}
use Rattle.mdct_naive.proofs.Added.{added_numbers, added_more, added_all}
use Rattle.mdct_naive.proofs.add_first.Goals as goal

pub added-requires : goal.added-requires
added-requires g c =
    let none = g.T.Number.ops.none in
    let k = c.loop-k.k in
    let below : k < length c.loop-k.output = omega arith in
    let within : k < length c.args.window.now = omega arith in
    added_numbers c.requires c.loop-k.invariant g.met.T.Number.closed k _ _ (omega arith) c.zero.ensures c.angle_sum-sum.ensures
    (get_or_default _ k _ none below) within (get_or_read _ k _ within c.index-window-k.is none)

pub loop-k-preserved : goal.loop-k-preserved
loop-k-preserved g c =
    let none = g.T.Number.ops.none in
    let k = c.loop-k.k in
    let below : k < length c.loop-k.output = omega arith in
    let within : k < length c.args.window.now = omega arith in
    added_more c.requires c.loop-k.invariant (omega arith) c.zero.ensures c.angle_sum-sum.ensures (get_or_default _ k _ none below)
    (get_or_read _ k _ within c.index-window-k.is none) c.added.ensures

pub returns : goal.returns
unfolding naive_imdct_first
returns g c = added_all c.requires c.loop-k.invariant (omega arith)
