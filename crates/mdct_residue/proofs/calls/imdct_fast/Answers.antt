-- `mdct_residue::calls::imdct_fast` meets its contract: where the answer is `Ok` the tests were passed. Assumes nothing.
use Rattle.mdct_answers.proofs.Accepted.{imdct_accepted}
use Rattle.mdct_residue.proofs.calls.imdct_fast.Goals as goal

pub imdct-requires : goal.imdct-requires
imdct-requires c =
    let a = c.args in
    imdct_accepted _ _ a.input.now a.first.now a.second.now a.window.now _ c.in_ok-imdct_answer.ensures
