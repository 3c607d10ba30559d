-- Between the split and the merge scratch holds two halves, and each call puts one inner result in the place of its input: a DST-III of the left half and a DCT-III of
-- the right.
use mathlib.Core.Path.{refl, ◌∙◌}
use Prim.Native.Nat.{◌/◌}
use lib.ListN.{length}
use Rattle.split.proofs.Results.{fit_dct3, fit_dst3}
use Rattle.dct4.proofs.Inner.{dst4_inputs, fit_left_dst4, fit_right_dst4, halved_ready, split_ready, left_ready, right_ready, merge_ready, sines_left, cosines_right, dst4_is}
use Rattle.dct4.proofs.type4_convert_to_type3.dst4.Goals as goal

pub halved-requires : goal.halved-requires
halved-requires g c = halved_ready g.met.W.Turns.served c.requires

pub split_dst4-requires : goal.split_dst4-requires
split_dst4-requires g c = split_ready g.met.W.Turns.served c.requires

pub dst3_part-requires : goal.dst3_part-requires
dst3_part-requires g c =
    let m = length c.args.x.now / 2 in
    let x = c.args.x.now in
    let split = dst4_inputs g.T.Number.ops m x c.split_dst4.ensures in
    left_ready g.met.W.Turns.served c.requires split refl c.halved-inner.ensures.serves (fit_left_dst4 g.met.T.Number.closed m x)

pub dct3_part-requires : goal.dct3_part-requires
dct3_part-requires g c =
    let law = g.met.W.Turns.served in
    let m = length c.args.x.now / 2 in
    let x = c.args.x.now in
    let same = c.halved-inner.ensures.same ∙ c.halved.ensures.same in
    let left = sines_left law c.requires same (dst4_inputs g.T.Number.ops m x c.split_dst4.ensures) c.dst3_part.ensures in
    right_ready law c.requires left c.dst3_part.auto.x c.halved-inner.ensures.serves (fit_right_dst4 g.met.T.Number.closed m x)

pub merge_dst4-requires : goal.merge_dst4-requires
merge_dst4-requires g c =
    let law = g.met.W.Turns.served in
    let turn = g.W.Turns.turn c.args.by in
    let same = c.halved-inner.ensures.same ∙ c.halved.ensures.same in
    let left = sines_left law c.requires same (dst4_inputs g.T.Number.ops _ _ c.split_dst4.ensures) c.dst3_part.ensures in
    let right = cosines_right law c.requires same left c.dct3_part.ensures in
    merge_ready law c.requires right (c.dct3_part.auto.x ∙ c.dst3_part.auto.x) (fit_dst3 g.met.T.Number.closed turn _) (fit_dct3 g.met.T.Number.closed turn _)

pub returns : goal.returns
returns g c =
    let law = g.met.W.Turns.served in
    let same = c.halved-inner.ensures.same ∙ c.halved.ensures.same in
    let left = sines_left law c.requires same (dst4_inputs g.T.Number.ops _ _ c.split_dst4.ensures) c.dst3_part.ensures in
    dst4_is law c.requires (cosines_right law c.requires same left c.dct3_part.ensures) c.merge_dst4.ensures
