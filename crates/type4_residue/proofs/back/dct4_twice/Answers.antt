-- `type4_residue::back::dct4_twice` meets its contract by the outcomes of its two calls. Assumes nothing.
use Rattle.std.proofs.lemmas.Result.{err_from_is_err_and}
use Rattle.sums.specs.Transform.{dct4_sum, times_half_length}
use Rattle.sums.proofs.Fourths.{dct4_twice}
use Rattle.sums.proofs.Outputs.{length_dct4, dct4_residues}
use Rattle.lending.proofs.InTurn.{InTurn, turns_done, turns_refused}
use Rattle.type4_residue.proofs.back.dct4_twice.Goals as goal

twice : InTurn dct4_sum dct4_sum times_half_length
twice = record { as_many = length_dct4; residues = dct4_residues; is = dct4_twice }

pub returns : goal.returns
returns c = turns_done twice 2 c.args.n c.args.buffer.now c.args.scratch.now c.in_ok-dct4_fast.ensures c.dct4_fast-2.ensures

pub returns-in_err-dct4_fast : goal.returns-in_err-dct4_fast
returns-in_err-dct4_fast c =
    let p = err_from_is_err_and c.from_residual.result c.from_residual.ensures.1 in
    rw (p.1, p.2) (turns_refused twice 2 c.args.n c.args.buffer.now c.args.scratch.now _ _ c.in_err-dct4_fast.ensures)
