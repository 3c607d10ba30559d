use Rattle.floats.proofs.Accepted.{size_doubled}
use Rattle.mdct_float.proofs.Accepted.{all, block_ready}
use Rattle.mdct_float.proofs.fast.imdct.Goals as goal

pub unit-unit-requires : goal.unit-unit-requires
unit-unit-requires c = size_doubled c.requires.size

pub imdct-requires : goal.imdct-requires
imdct-requires c = record {
  block = block_ready c.requires c.unit-unit.ensures;
  input_numbers = all c.args.input.now;
  first_numbers = all c.args.first.now;
  second_numbers = all c.args.second.now;
}
