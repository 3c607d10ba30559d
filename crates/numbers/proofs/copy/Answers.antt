use Rattle.std.proofs.Common.{arith, length, ◌≡◌, refl}
use Rattle.numbers.proofs.Copied.{copy_more, copying_is}
use Rattle.numbers.proofs.copy.Goals as goal

pub loop-i-init : goal.loop-i-init
loop-i-init g c = refl

pub loop-i-preserved : goal.loop-i-preserved
loop-i-preserved g c = copy_more c.loop-i.i _ _ _ _ c.loop-i.invariant (omega arith) (omega arith) (cc)

pub returns : goal.returns
returns g c =
    let all : c.loop-i.i ≡ length c.args.from.now = omega arith in
    rw (← copying_is, ← all) c.loop-i.invariant
