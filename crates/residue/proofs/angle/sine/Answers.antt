-- `residue::angle::sine` meets its contract: the cosine is read three quarters of a turn further on, where the table goes that far, and else one turn back.
-- Assumes nothing.
use mathlib.Core.Path.{sym, ◌∙◌}
use native.Mathlib.Omega.{arith}
use lib.ListN.{length}
use Rattle.sums.proofs.Turns.{sin_at}
use Rattle.residue.proofs.angle.sine.Goals as goal

pub returns-then-at-table : goal.returns-then-at-table
returns-then-at-table c =
    c.cosine.ensures
    ∙ sym (sin_at (length c.args.table.now) c.requires.0.whole c.args.k _ 0 c.requires.1.1 (omega arith))

pub returns-else-at-table : goal.returns-else-at-table
returns-else-at-table c =
    c.cosine-else-at-table.ensures
    ∙ sym (sin_at (length c.args.table.now) c.requires.0.whole c.args.k _ 1 c.requires.1.1 (omega arith))
