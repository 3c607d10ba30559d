use mathlib.Core.Path.{refl, ◌∙◌}
use Prim.Native.Nat.{◌*◌}
use native.Mathlib.Omega.{arith}
use lib.ListN.{length-take}
use Rattle.ring.proofs.Parts.{parts_length}
use Rattle.split.proofs.Parts.{step_ready, front_kept}
use Rattle.dct3.proofs.Inner.{parted, first_ready, first_made, second_ready, second_made, third_ready, third_made, merge_ready, results_merged}
use Rattle.dct3.proofs.type2and3_splitradix.+dct3.Goals as goal

pub dct3-step-requires : goal.dct3-step-requires
dct3-step-requires g t c κs within =
    (omega (arith, c.decreases), (within.0, (within.1, step_ready g.met.W.Turns.served c.requires c.if-x-le2.false)))

pub step-dct3-requires : goal.step-dct3-requires
step-dct3-requires g t c κs within =
    let closed = g.met.T.Number.closed in
    let law = g.met.W.Turns.served in
    let half = c.halved-by_half.ensures in
    let held = parted closed law c.requires c.split.ensures in (
      simp length-take (omega (arith, c.decreases)),
      (within.0, (within.1, first_ready closed law c.requires half.same half.serves held c.args.x.now refl)),
    )

pub step-dct3-requires-2 : goal.step-dct3-requires-2
step-dct3-requires-2 g t c κs within =
    let closed = g.met.T.Number.closed in
    let law = g.met.W.Turns.served in
    let half = c.halved-by_half.ensures in
    let quarter = c.halved-by_quarter.ensures in
    let first = first_made closed law c.requires half.same half.serves (parted closed law c.requires c.split.ensures) c.dct3.ensures in
    let kept = front_kept (2 * c.args.q) c.args.x.now c.dct3.new.s c.dct3.auto.s in (
      simp length-take (omega (arith, c.decreases)),
      (within.0, (within.1, second_ready closed law c.requires (quarter.same ∙ half.same) quarter.serves first _ kept)),
    )

pub step-dct3-requires-3 : goal.step-dct3-requires-3
step-dct3-requires-3 g t c κs within =
    let closed = g.met.T.Number.closed in
    let law = g.met.W.Turns.served in
    let half = c.halved-by_half.ensures in
    let quarter = c.halved-by_quarter.ensures in
    let same = quarter.same ∙ half.same in
    let first = first_made closed law c.requires half.same half.serves (parted closed law c.requires c.split.ensures) c.dct3.ensures in
    let second = second_made closed law c.requires same quarter.serves first c.dct3-2.ensures in
    let kept = front_kept c.args.q _ c.dct3-2.new.s c.dct3-2.auto.s ∙ front_kept (2 * c.args.q) c.args.x.now c.dct3.new.s c.dct3.auto.s in (
      simp length-take (omega (arith, c.decreases, parts_length second)),
      (within.0, (within.1, third_ready closed law c.requires same quarter.serves second _ kept)),
    )

pub step-merge-requires : goal.step-merge-requires
step-merge-requires g t c =
    let closed = g.met.T.Number.closed in
    let law = g.met.W.Turns.served in
    let half = c.halved-by_half.ensures in
    let quarter = c.halved-by_quarter.ensures in
    let same = quarter.same ∙ half.same in
    let first = first_made closed law c.requires half.same half.serves (parted closed law c.requires c.split.ensures) c.dct3.ensures in
    let second = second_made closed law c.requires same quarter.serves first c.dct3-2.ensures in
    let third = third_made closed law c.requires same quarter.serves second c.dct3-3.ensures in
    merge_ready closed law c.requires third
    (front_kept c.args.q _ c.dct3-3.new.s c.dct3-3.auto.s ∙ front_kept c.args.q _ c.dct3-2.new.s c.dct3-2.auto.s
    ∙ front_kept (2 * c.args.q) c.args.x.now c.dct3.new.s c.dct3.auto.s)

pub step-returns : goal.step-returns
step-returns g t c =
    let closed = g.met.T.Number.closed in
    let law = g.met.W.Turns.served in
    let half = c.halved-by_half.ensures in
    let quarter = c.halved-by_quarter.ensures in
    let same = quarter.same ∙ half.same in
    let first = first_made closed law c.requires half.same half.serves (parted closed law c.requires c.split.ensures) c.dct3.ensures in
    let second = second_made closed law c.requires same quarter.serves first c.dct3-2.ensures in
    let third = third_made closed law c.requires same quarter.serves second c.dct3-3.ensures in
    results_merged closed law c.requires third c.merge.ensures
