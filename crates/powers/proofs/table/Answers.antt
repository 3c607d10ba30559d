-- `powers::table` meets its contract: the table passes the rule's test, which is computed at each of its 8,192 entries.
-- Assumes nothing.
use mathlib.Core.Path.{refl}
use Rattle.powers.proofs.Rule.{is_powers}
use Rattle.powers.proofs.table.Goals as goal

pub returns : goal.returns
returns c = is_powers _ refl tt
