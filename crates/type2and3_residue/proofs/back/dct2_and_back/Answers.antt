-- `type2and3_residue::back::dct2_and_back` meets its contract by the outcomes of its two calls. Assumes nothing.
use Rattle.std.proofs.lemmas.Result.{err_from_is_err_and}
use Rattle.sums.specs.Transform.{dct2_sum, dct3_sum, times_half_length}
use Rattle.sums.proofs.Inverse.{dct3_of_dct2}
use Rattle.sums.proofs.Outputs.{length_dct2, dct2_residues}
use Rattle.lending.proofs.InTurn.{InTurn, turns_done, turns_refused}
use Rattle.type2and3_residue.proofs.back.dct2_and_back.Goals as goal

there_and_back : InTurn dct2_sum dct3_sum times_half_length
there_and_back = record { as_many = length_dct2; residues = dct2_residues; is = dct3_of_dct2 }

pub returns : goal.returns
returns c = turns_done there_and_back 1 c.args.n c.args.buffer.now c.args.scratch.now c.in_ok-dct2_fast.ensures c.dct3_fast.ensures

pub returns-in_err-dct2_fast : goal.returns-in_err-dct2_fast
returns-in_err-dct2_fast c =
    let p = err_from_is_err_and c.from_residual.result c.from_residual.ensures.1 in
    rw (p.1, p.2) (turns_refused there_and_back 1 c.args.n c.args.buffer.now c.args.scratch.now _ _ c.in_err-dct2_fast.ensures)
