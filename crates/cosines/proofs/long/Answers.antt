-- `cosines::long` meets its contract: the table passes the rule's test, which is computed at each of its 1,023 entries.
-- Assumes nothing.
use Rattle.cosines.proofs.Rule.{is_cosines}
use Rattle.cosines.proofs.long.Goals as goal

pub returns : goal.returns
returns c = is_cosines 10 _ tt
