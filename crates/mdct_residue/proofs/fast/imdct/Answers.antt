use Rattle.std.proofs.Common.{arith, ◌∙◌}
use Rattle.mdct_residue.proofs.Accepted.{block_small, imdct_ready, imdct_first_is, imdct_second_is}
use Rattle.mdct_residue.proofs.fast.imdct.Goals as goal

pub levels-table-requires : goal.levels-table-requires
levels-table-requires c = omega (arith, block_small c.requires.block)

pub imdct-requires : goal.imdct-requires
imdct-requires c = imdct_ready c.requires c.levels-table.ensures.cosines c.levels-table.ensures.enough

pub returns : goal.returns
returns c = (
  c.imdct.ensures.0 ∙ imdct_first_is c.requires,
  c.imdct.ensures.1 ∙ imdct_second_is c.requires,
  c.imdct.ensures.2,
)
