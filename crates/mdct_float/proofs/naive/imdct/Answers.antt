use Rattle.std.proofs.Common.{◌∙◌, ap}
use Rattle.algorithms.specs.Block.{naive_imdct_first, naive_imdct_second}
use Rattle.floats.specs.Arithmetic.{float_ops}
use Rattle.mdct_float.proofs.Accepted.{imdct_ready, circle_table}
use Rattle.mdct_float.proofs.naive.imdct.Goals as goal

pub imdct-requires : goal.imdct-requires
imdct-requires c = imdct_ready c.requires

pub returns : goal.returns
returns c =
    let a = c.args in
    let table = circle_table a.table.now c.requires in (
      c.imdct.ensures.0 ∙ ap (λ t. naive_imdct_first float_ops a.n t a.window.now a.input.now a.first.now) table,
      c.imdct.ensures.1 ∙ ap (λ t. naive_imdct_second float_ops a.n t a.window.now a.input.now a.second.now) table,
    )
