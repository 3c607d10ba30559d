-- `cosines::short` meets its contract: the table passes the rule's test, which is computed at each of its 15 entries.
-- Assumes nothing.
use Rattle.cosines.proofs.Rule.{is_cosines}
use Rattle.cosines.proofs.short.Goals as goal

pub returns : goal.returns
returns c = is_cosines 4 _ tt
