use native.Mathlib.Omega.{arith}
use Rattle.std.proofs.lemmas.List.{get_or_read}
use Rattle.algorithms.proofs.StoresThree.{splitting_more}
use Rattle.dct3.proofs.steps.split.Goals as goal

pub loop-i-preserved : goal.loop-i-preserved
loop-i-preserved g c =
    let x = c.args.x.now in
    let before = get_or_read x _ _ (omega arith) c.index-x-i.is g.T.Number.ops.none in
    let after = get_or_read x _ _ (omega arith) c.index-x-i-in-loop-i.is g.T.Number.ops.none in
    splitting_more c.loop-i.invariant c.loop-i-test.true (get_or_read x _ _ (omega arith) c.index-x-i-in-loop-i-2.is _)
    (get_or_read x _ _ (omega arith) c.index-x-i-in-loop-i-3.is _) (cc) (cc)
