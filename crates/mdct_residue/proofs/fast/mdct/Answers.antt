use Rattle.std.proofs.Common.{arith, ◌∙◌}
use Rattle.mdct_residue.proofs.Accepted.{block_small, mdct_ready, mdct_is}
use Rattle.mdct_residue.proofs.fast.mdct.Goals as goal

pub levels-table-requires : goal.levels-table-requires
levels-table-requires c = omega (arith, block_small c.requires.block)

pub mdct-requires : goal.mdct-requires
mdct-requires c = mdct_ready c.requires c.levels-table.ensures.cosines c.levels-table.ensures.enough

pub returns : goal.returns
returns c = (c.mdct.ensures.0 ∙ mdct_is c.requires, c.mdct.ensures.1)
