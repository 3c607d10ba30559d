use mathlib.Core.Path.{refl, ◌∙◌}
use Prim.Native.Nat.{◌+◌, ◌*◌, ◌-◌}
use native.Mathlib.Omega.{arith}
use Rattle.std.proofs.lemmas.List.{get_or_read}
use Rattle.ring.specs.Part.{part}
use Rattle.ring.proofs.Parts.{part_entry}
use Rattle.algorithms.proofs.StepThree.{joining_more}
use Rattle.dct3.proofs.steps.merge.Goals as goal

pub loop-i-preserved : goal.loop-i-preserved
loop-i-preserved g c =
    let q = c.args.q in
    let s = c.args.s.now in
    let i = c.loop-i.i in
    let z = g.T.Number.ops.none in
    joining_more {e = part 0 (2 * q) s} {a = part (2 * q) (3 * q) s} {b = part (3 * q) (4 * q) s} c.loop-i.invariant c.loop-i-test.true
    (get_or_read s i _ (omega arith) c.index-s-i.is z ∙ part_entry z s 0 (2 * q) i i (omega arith) (omega arith))
    (get_or_read s (2 * q - 1 - i) _ (omega arith) c.index-s-q.is z ∙ part_entry z s 0 (2 * q) (2 * q - 1 - i) (2 * q - 1 - i) (omega arith) (omega arith))
    (get_or_read s (2 * q + i) _ (omega arith) c.index-s-q-in-loop-i.is z ∙ part_entry z s (2 * q) (3 * q) i (2 * q + i) (omega arith) refl)
    (get_or_read s (3 * q + i) _ (omega arith) c.index-s-q-in-loop-i-2.is z ∙ part_entry z s (3 * q) (4 * q) i (3 * q + i) (omega arith) refl)
    c.cos-cos.ensures c.sin-sin.ensures (cc) (cc) (cc) (cc)
