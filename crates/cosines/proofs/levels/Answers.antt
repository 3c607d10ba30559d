-- Each table passes the rule's test, which is computed at each of its entries.
use Rattle.std.proofs.Common.{arith}
use Rattle.cosines.proofs.Rule.{is_cosines}
use Rattle.cosines.proofs.levels.Goals as goal

pub returns-in-0-to-16-clause-cosines : goal.returns-in-0-to-16-clause-cosines
returns-in-0-to-16-clause-cosines c = record { levels = 4; small = omega arith; rule = is_cosines 4 _ tt }

pub returns-in-0-to-128-clause-cosines : goal.returns-in-0-to-128-clause-cosines
returns-in-0-to-128-clause-cosines c = record { levels = 7; small = omega arith; rule = is_cosines 7 _ tt }

pub returns-in-0-to-1024-clause-cosines : goal.returns-in-0-to-1024-clause-cosines
returns-in-0-to-1024-clause-cosines c = record { levels = 10; small = omega arith; rule = is_cosines 10 _ tt }

pub returns-in_default-clause-cosines : goal.returns-in_default-clause-cosines
returns-in_default-clause-cosines c = record { levels = 11; small = omega arith; rule = is_cosines 11 _ tt }
