use Rattle.floats.proofs.Accepted.{size_doubled}
use Rattle.mdct_float.proofs.Accepted.{all, block_ready}
use Rattle.mdct_float.proofs.fast.mdct.Goals as goal

pub unit-unit-requires : goal.unit-unit-requires
unit-unit-requires c = size_doubled c.requires.size

pub mdct-requires : goal.mdct-requires
mdct-requires c = record { block = block_ready c.requires c.unit-unit.ensures; first_numbers = all c.args.first.now; second_numbers = all c.args.second.now }
