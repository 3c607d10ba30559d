use Rattle.std.proofs.Common.{refl, ◌∙◌}
use Rattle.mdct_residue.proofs.OddCosines.{size_doubled, mdct_ready, mdct_is}
use Rattle.mdct_residue.proofs.naive.mdct.Goals as goal

pub unit-unit-requires : goal.unit-unit-requires
unit-unit-requires c = size_doubled c.requires.block

pub mdct-requires : goal.mdct-requires
mdct-requires c = mdct_ready c.requires c.table-table.ensures c.unit-unit.ensures refl

pub returns : goal.returns
returns c = c.mdct.ensures ∙ mdct_is c.requires
