use native.Mathlib.Omega.{arith}
use Rattle.ring.proofs.Table.{is_tab}
use Rattle.counting.specs.Lent.{marked}
use Rattle.counting.proofs.entries.mark.Goals as goal

pub returns : goal.returns
unfolding marked
returns c = is_tab 0 _ _ (omega arith) (λ k below. c.loop-place.invariant k (omega arith))
