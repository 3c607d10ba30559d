-- `mdct_answers::block_answer` meets its contract: the tests before have shown what the window's own test asks. Assumes nothing.
use Rattle.lending.proofs.Bad.{sound_residues}
use Rattle.lending.proofs.Lengths.{fit_block}
use Rattle.lending.proofs.Tests.{passed}
use Rattle.mdct_answers.proofs.block_answer.Goals as goal

pub accepted-requires : goal.accepted-requires
accepted-requires c =
    let a = c.args in (
      (fit_block a.parts a.n _ _ _ _ a.scratch (passed c.block_fits.ensures c.if-not-block_fits.false)).3,
      passed c.allowed_size.ensures c.if-not-allowed_size.false,
      sound_residues a.window.now (passed c.sound.ensures c.if-not-sound.false),
    )
