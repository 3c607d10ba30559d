use Rattle.std.proofs.Common.{arith, ◌*◌, ◌/◌, ◌∙◌, ap}
use lib.Seq.{length-take-le}
use Rattle.algorithms.specs.Fold.{spread_first, spread_second}
use Rattle.algorithms.specs.Fast.{imdct_fast_first, imdct_fast_second, dct4_fast}
use Rattle.numbers.proofs.Copied.{copied_whole}
use Rattle.mdct_fast.proofs.Halves.{block_segment, fit_dct4, lent_cleared}
use Rattle.mdct_fast.proofs.imdct.Goals as goal

pub spread-requires : goal.spread-requires
spread-requires g c =
    let law = g.met.W.Turns.served in
    let block = c.requires.block in (
      block_segment law block c.dct4.new.x (rw c.dct4.ensures (fit_dct4 g.met.T.Number.closed _ _)) (omega (arith, c.dct4.auto.x, c.copy.auto.to, c.split_at_mut-turned.ensures.front_len, block.a_length)),
      block_segment law block c.args.first.now c.requires.first_numbers block.b_length,
      block_segment law block c.args.second.now c.requires.second_numbers block.c_length,
    )

pub returns : goal.returns
unfolding imdct_fast_first imdct_fast_second
returns g c =
    let O = g.T.Number.ops in
    let w = c.args.window.now in
    let turned = c.dct4.ensures ∙ ap (dct4_fast O (g.W.Turns.turn c.args.by)) (c.copy.ensures ∙ copied_whole c.args.input.now _ (omega (arith, c.split_at_mut-turned.ensures.front_len, c.requires.block.a_length))) in (
      c.spread.ensures.0 ∙ ap (λ d. spread_first O (c.args.n / 2) w d c.args.first.now) turned,
      c.spread.ensures.1 ∙ ap (λ d. spread_second O (c.args.n / 2) w d c.args.second.now) turned,
      c.clear.ensures ∙ lent_cleared O.nought (2 * c.args.n) (2 * c.args.n) _ c.args.scratch.now (omega arith) (omega (arith, length-take-le (2 * c.args.n) c.args.scratch.now c.requires.block.room)),
    )
