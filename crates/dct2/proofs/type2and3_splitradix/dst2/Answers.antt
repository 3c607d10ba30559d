use Rattle.algorithms.proofs.Lists.{length_alternated}
use Rattle.split.proofs.Numbers.{fit_alternated}
use Rattle.split.proofs.Parts.{part_ready, step_ready}
use Rattle.dct2.proofs.Inner.{sines_turned}
use Rattle.dct2.proofs.type2and3_splitradix.dst2.Goals as goal

pub dct2-requires : goal.dct2-requires
dct2-requires g c =
    rw c.alternate.ensures
    (part_ready c.requires.served (fit_alternated g.met.T.Number.closed c.args.x.now c.requires.numbers) (length_alternated g.T.Number.ops c.args.x.now) c.requires.same)

pub returns-else-x-le2 : goal.returns-else-x-le2
returns-else-x-le2 g c =
    let law = g.met.W.Turns.served in
    sines_turned g.met.T.Number.closed law (step_ready law c.requires c.if-x-le2.false) c.alternate.ensures c.dct2.ensures c.reverse.ensures
