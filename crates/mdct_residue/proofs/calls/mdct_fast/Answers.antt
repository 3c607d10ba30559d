-- `mdct_residue::calls::mdct_fast` meets its contract: where the answer is `Ok` the tests were passed. Assumes nothing.
use Rattle.mdct_answers.proofs.Accepted.{mdct_accepted}
use Rattle.mdct_residue.proofs.calls.mdct_fast.Goals as goal

pub mdct-requires : goal.mdct-requires
mdct-requires c =
    let a = c.args in
    mdct_accepted _ _ a.first.now a.second.now a.output.now a.window.now _ c.in_ok-mdct_answer.ensures
