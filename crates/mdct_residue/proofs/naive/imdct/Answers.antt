use Rattle.std.proofs.Common.{refl, ◌∙◌}
use Rattle.mdct_residue.proofs.OddCosines.{size_doubled, imdct_ready, imdct_first_is, imdct_second_is}
use Rattle.mdct_residue.proofs.naive.imdct.Goals as goal

pub unit-unit-requires : goal.unit-unit-requires
unit-unit-requires c = size_doubled c.requires.block

pub imdct-requires : goal.imdct-requires
imdct-requires c = imdct_ready c.requires c.table-table.ensures c.unit-unit.ensures refl

pub returns : goal.returns
returns c = (c.imdct.ensures.0 ∙ imdct_first_is c.requires, c.imdct.ensures.1 ∙ imdct_second_is c.requires)
