use Rattle.std.proofs.Common.{◌∙◌, ap}
use Rattle.algorithms.specs.Block.{naive_mdct}
use Rattle.floats.specs.Arithmetic.{float_ops}
use Rattle.mdct_float.proofs.Accepted.{mdct_ready, circle_table}
use Rattle.mdct_float.proofs.naive.mdct.Goals as goal

pub mdct-requires : goal.mdct-requires
mdct-requires c = mdct_ready c.requires

pub returns : goal.returns
returns c =
    let a = c.args in
    c.mdct.ensures ∙ ap (λ t. naive_mdct float_ops a.n t a.window.now a.first.now a.second.now) (circle_table a.table.now c.requires)
