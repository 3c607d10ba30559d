use Rattle.std.proofs.Common.{arith, ◌≡◌, ◌*◌, ◌∙◌, ap, length}
use lib.Seq.{length-take-le}
use Rattle.algorithms.specs.Fast.{mdct_fast, dct4_fast}
use Rattle.mdct_fast.proofs.Halves.{block_even, block_segment, fit_folded, lent_cleared}
use Rattle.mdct_fast.proofs.mdct.Goals as goal

pub fold-requires : goal.fold-requires
fold-requires g c =
    let law = g.met.W.Turns.served in
    let block = c.requires.block in (
      block_segment law block c.args.first.now c.requires.first_numbers block.a_length,
      block_segment law block c.args.second.now c.requires.second_numbers block.b_length,
      omega (arith, block.c_length, block_even law block),
    )

pub dct4-requires : goal.dct4-requires
dct4-requires g c =
    let block = c.requires.block in
    let size : length c.fold.new.out ≡ c.args.n = omega (arith, c.fold.auto.out, block.c_length) in
    record {
      served = rw size block.served;
      some = omega (arith, block.enough);
      numbers = rw c.fold.ensures (fit_folded g.met.T.Number.closed _ _ _ _);
      same = length-take-le c.args.n c.args.scratch.now (omega (arith, block.room)) ∙ omega (arith, size);
    }

pub returns : goal.returns
unfolding mdct_fast
returns g c = (
  c.dct4.ensures ∙ ap (dct4_fast g.T.Number.ops (g.W.Turns.turn c.args.by)) c.fold.ensures,
  c.clear.ensures ∙ lent_cleared g.T.Number.ops.nought c.args.n (2 * c.args.n) c.dct4.new.s c.args.scratch.now (omega arith)
      (omega (arith, c.dct4.auto.s, length-take-le c.args.n c.args.scratch.now (omega (arith, c.requires.block.room)))),
)
