-- `cosines::longest` meets its contract: the table passes the rule's test, which is computed at each of its 2,047 entries.
-- Assumes nothing.
use Rattle.cosines.proofs.Rule.{is_cosines}
use Rattle.cosines.proofs.longest.Goals as goal

pub returns : goal.returns
returns c = is_cosines 11 _ tt
