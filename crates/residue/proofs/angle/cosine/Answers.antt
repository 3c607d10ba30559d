-- `residue::angle::cosine` meets its contract: the two entries are opposite powers of g, and half their sum is the cosine.
-- Assumes nothing.
use native.Mathlib.Omega.{arith}
use lib.ListN.{length}
use Rattle.sums.proofs.Powers.{power_below}
use Rattle.residue.proofs.Opposite.{Opposite, cos_opposite}
use Rattle.residue.proofs.angle.cosine.Goals as goal
use Rattle.residue.proofs.angle.cosine.Goals.{Joined-k-eq0, else-k-eq0, then-k-eq0}

-- the two places make up no turn or one
opposite : (c : Joined-k-eq0)
    → Opposite (length c.args.table.now) c.args.k c.if-k-eq0.back
opposite c =
    elim c.if-k-eq0.branch [ then-k-eq0 w ↦ record { turns = 0; below = omega arith; whole = omega arith } | else-k-eq0 w ↦ record { turns = 1; below = omega arith; whole = omega arith } ]

pub offset_bounds-table-back : goal.offset_bounds-table-back
offset_bounds-table-back c = omega (arith, opposite (goal.at.offset_bounds-table-back c).Joined-k-eq0)

pub bounds-table-back : goal.bounds-table-back
bounds-table-back c = (opposite (goal.at.bounds-table-back c).Joined-k-eq0).below

pub plus-requires : goal.plus-requires
plus-requires c =
    let below = power_below c.args.table.now c.requires.0 in (
      below c.args.k c.requires.1,
      below c.if-k-eq0.back (opposite (goal.at.plus-requires c).Joined-k-eq0).below,
    )

pub returns : goal.returns
returns c =
    cos_opposite c.args.table.now c.requires.0 c.args.k c.if-k-eq0.back c.requires.1
    (opposite (goal.at.returns c).Joined-k-eq0) c.plus.ensures (cc)
