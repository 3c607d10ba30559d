use Rattle.std.proofs.Common.{arith, ◌≡◌, ◌*◌, ◌/◌, length, ◌∙◌}
use lib.Seq.{length-take-le}
use Rattle.ring.proofs.Parts.{parts_length}
use Rattle.split.proofs.Parts.{part_ready, step_ready, front_kept}
use Rattle.dct2.proofs.Inner.{parted, first_made, second_made, third_made, first_given, second_given, third_given, merge_given, merge_small, step_merged}
use Rattle.dct2.proofs.type2and3_splitradix.+dct2.Goals as goal

pub dct2-step-requires : goal.dct2-step-requires
dct2-step-requires g t c =
    let ready = step_ready g.met.W.Turns.served c.requires c.if-x-le2.false in
    let all : length c.args.x.now ≡ 4 * (length c.args.x.now / 4) = ready.from_length in
    λ κs lives. (omega (arith, c.decreases), (lives.0, (lives.1, ready)))

pub step-dct2-requires : goal.step-dct2-requires
step-dct2-requires g t c =
    let closed = g.met.T.Number.closed in
    let law = g.met.W.Turns.served in
    let given = first_given closed law c.requires (parted closed law c.requires c.split.ensures) in
    let room = length-take-le (2 * c.args.q) c.args.x.now (omega (arith, c.requires.from_length)) in
    λ κs lives. (
      omega (arith, c.decreases, given.1, c.requires.from_length, c.requires.some),
      (lives.0, (lives.1, part_ready c.halved-by_half.ensures.serves given.0 given.1 room)),
    )

pub step-dct2-requires-2 : goal.step-dct2-requires-2
step-dct2-requires-2 g t c =
    let closed = g.met.T.Number.closed in
    let law = g.met.W.Turns.served in
    let first = first_made closed law c.requires c.halved-by_half.ensures.same (parted closed law c.requires c.split.ensures) c.dct2.ensures in
    let given = second_given closed law c.requires first in
    let kept = front_kept (2 * c.args.q) c.args.x.now _ c.dct2.auto.s in
    let room = length-take-le c.args.q _ (omega (arith, kept, c.requires.from_length)) in
    λ κs lives. (
      omega (arith, c.decreases, given.1, c.requires.from_length, c.requires.some),
      (lives.0, (lives.1, part_ready c.halved-by_quarter.ensures.serves given.0 given.1 room)),
    )

pub step-dct2-requires-3 : goal.step-dct2-requires-3
step-dct2-requires-3 g t c =
    let closed = g.met.T.Number.closed in
    let law = g.met.W.Turns.served in
    let quarter = c.halved-by_quarter.ensures.same ∙ c.halved-by_half.ensures.same in
    let first = first_made closed law c.requires c.halved-by_half.ensures.same (parted closed law c.requires c.split.ensures) c.dct2.ensures in
    let second = second_made closed law c.requires quarter first c.dct2-2.ensures in
    let given = third_given closed law c.requires (parts_length second) second in
    let kept = front_kept c.args.q _ _ c.dct2-2.auto.s ∙ front_kept (2 * c.args.q) c.args.x.now _ c.dct2.auto.s in
    let room = length-take-le c.args.q _ (omega (arith, kept, c.requires.from_length)) in
    λ κs lives. (
      omega (arith, c.decreases, given.1, c.requires.from_length, c.requires.some),
      (lives.0, (lives.1, part_ready c.halved-by_quarter.ensures.serves given.0 given.1 room)),
    )

pub step-merge-requires : goal.step-merge-requires
step-merge-requires g t c =
    let closed = g.met.T.Number.closed in
    let law = g.met.W.Turns.served in
    let quarter = c.halved-by_quarter.ensures.same ∙ c.halved-by_half.ensures.same in
    let first = first_made closed law c.requires c.halved-by_half.ensures.same (parted closed law c.requires c.split.ensures) c.dct2.ensures in
    let second = second_made closed law c.requires quarter first c.dct2-2.ensures in
    let third = third_made closed law c.requires quarter (parts_length second) second c.dct2-3.ensures in
    let given = merge_given closed law c.requires third in (
      c.requires.some,
      merge_small closed law c.requires,
      given.0,
      given.1,
      front_kept c.args.q _ _ c.dct2-3.auto.s ∙ front_kept c.args.q _ _ c.dct2-2.auto.s ∙ front_kept (2 * c.args.q) c.args.x.now _ c.dct2.auto.s ∙ c.requires.from_length,
    )

pub step-returns : goal.step-returns
step-returns g t c =
    let closed = g.met.T.Number.closed in
    let law = g.met.W.Turns.served in
    let quarter = c.halved-by_quarter.ensures.same ∙ c.halved-by_half.ensures.same in
    let first = first_made closed law c.requires c.halved-by_half.ensures.same (parted closed law c.requires c.split.ensures) c.dct2.ensures in
    let second = second_made closed law c.requires quarter first c.dct2-2.ensures in
    let third = third_made closed law c.requires quarter (parts_length second) second c.dct2-3.ensures in
    step_merged closed law c.requires third c.merge.ensures
