-- Between the split and the merge scratch holds two halves, and each call puts one inner result in the place of its input: a DCT-III of the left half and a DST-III of
-- the right.
use mathlib.Core.Path.{refl, ◌∙◌}
use Prim.Native.Nat.{◌/◌}
use lib.ListN.{length}
use Rattle.split.proofs.Results.{fit_dct3, fit_dst3}
use Rattle.dct4.proofs.Inner.{dct4_inputs, fit_left_dct4, fit_right_dct4, halved_ready, split_ready, left_ready, right_ready, merge_ready, cosines_left, sines_right, dct4_is}
use Rattle.dct4.proofs.type4_convert_to_type3.dct4.Goals as goal

pub halved-requires : goal.halved-requires
halved-requires g c = halved_ready g.met.W.Turns.served c.requires

pub split_dct4-requires : goal.split_dct4-requires
split_dct4-requires g c = split_ready g.met.W.Turns.served c.requires

pub dct3_part-requires : goal.dct3_part-requires
dct3_part-requires g c =
    let m = length c.args.x.now / 2 in
    let x = c.args.x.now in
    let split = dct4_inputs g.T.Number.ops m x c.split_dct4.ensures in
    left_ready g.met.W.Turns.served c.requires split refl c.halved-inner.ensures.serves (fit_left_dct4 g.met.T.Number.closed m x)

pub dst3_part-requires : goal.dst3_part-requires
dst3_part-requires g c =
    let law = g.met.W.Turns.served in
    let m = length c.args.x.now / 2 in
    let x = c.args.x.now in
    let same = c.halved-inner.ensures.same ∙ c.halved.ensures.same in
    let left = cosines_left law c.requires same (dct4_inputs g.T.Number.ops m x c.split_dct4.ensures) c.dct3_part.ensures in
    right_ready law c.requires left c.dct3_part.auto.x c.halved-inner.ensures.serves (fit_right_dct4 g.met.T.Number.closed m x)

pub merge_dct4-requires : goal.merge_dct4-requires
merge_dct4-requires g c =
    let law = g.met.W.Turns.served in
    let turn = g.W.Turns.turn c.args.by in
    let same = c.halved-inner.ensures.same ∙ c.halved.ensures.same in
    let left = cosines_left law c.requires same (dct4_inputs g.T.Number.ops _ _ c.split_dct4.ensures) c.dct3_part.ensures in
    let right = sines_right law c.requires same left c.dst3_part.ensures in
    merge_ready law c.requires right (c.dst3_part.auto.x ∙ c.dct3_part.auto.x) (fit_dct3 g.met.T.Number.closed turn _) (fit_dst3 g.met.T.Number.closed turn _)

pub returns : goal.returns
returns g c =
    let law = g.met.W.Turns.served in
    let same = c.halved-inner.ensures.same ∙ c.halved.ensures.same in
    let left = cosines_left law c.requires same (dct4_inputs g.T.Number.ops _ _ c.split_dct4.ensures) c.dct3_part.ensures in
    dct4_is law c.requires (sines_right law c.requires same left c.dst3_part.ensures) c.merge_dct4.ensures
