-- `mdct_residue::calls::imdct_naive` meets its contract: where the answer is `Ok` the tests were passed. Assumes nothing.
use Rattle.mdct_answers.proofs.Accepted.{imdct_accepted}
use Rattle.mdct_residue.proofs.Unneeded.{none_needed}
use Rattle.mdct_residue.proofs.calls.imdct_naive.Goals as goal

pub imdct-requires : goal.imdct-requires
imdct-requires c =
    let a = c.args in
    search (none_needed, imdct_accepted _ _ a.input.now a.first.now a.second.now a.window.now _ c.in_ok-imdct_answer.ensures)
