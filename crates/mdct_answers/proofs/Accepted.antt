-- An MDCT or IMDCT that is answered `Ok` has passed its tests (mdct_accepted, imdct_accepted). Assumes nothing.
use mathlib.Core.Bool.{true, ◌&&◌}
use mathlib.Core.List.{List, [], ◌∷◌}
use mathlib.Core.Path.{◌≡◌}
use Prim.Native.Nat.{ℕ}
use lib.Dec.{T}
use lib.ListN.{length}
use Rattle.answers.specs.Said.{accepted}
use Rattle.lending.specs.Accepted.{Block, MdctAccepted, ImdctAccepted}
use Rattle.lending.proofs.Accepted.{ok_passed}
use Rattle.lending.proofs.Bad.{sound_residues}
use Rattle.lending.proofs.Lengths.{fit_block}
use Rattle.lending.proofs.Tests.{all_four}
use Rattle.sums.proofs.Sizes.{allowed_exponent}
use Rattle.ring.proofs.Below.{both_left}
use Rattle.sums.specs.Bad.{sound_entries, sound_slices}
use Rattle.sums.specs.Call.{transform_answer, block_lengths, mdct_answer, imdct_answer}
use Rattle.sums.specs.Residue.{Residues}
use Rattle.sums.specs.Size.{allowed_size}
use Rattle.sums.specs.Window.{accepted_window}

module _ (parts n : ℕ) (a b c w : List ℕ) (scratchLength : ℕ) (searched : List (List ℕ))
    (asked : accepted [] ≡ transform_answer (allowed_size 2 n) (block_lengths parts n a b c w scratchLength) searched (accepted_window n w)) where
  passed : T (allowed_size 2 n) × T (block_lengths parts n a b c w scratchLength) × T (sound_slices searched) × T (accepted_window n w)
  passed = ok_passed (allowed_size 2 n) (block_lengths parts n a b c w scratchLength) searched (accepted_window n w) asked

  block : Residues w → Block parts n a b c w scratchLength
  block residues =
      let size = allowed_exponent 2 n passed.0 in
      let fit = fit_block parts n (length a) (length b) (length c) (length w) scratchLength passed.1 in
      record {
        exponent = size.0;
        small = size.1;
        power = size.2;
        enough = size.3;
        a_length = fit.0;
        b_length = fit.1;
        c_length = fit.2;
        window_length = fit.3;
        room = fit.4;
        window_residues = residues;
      }

pub mdct_accepted : (parts n : ℕ) (first second output w : List ℕ) (scratchLength : ℕ)
    → accepted [] ≡ mdct_answer parts n first second output w scratchLength → MdctAccepted parts n first second output w scratchLength
mdct_accepted parts n first second output w scratchLength asked =
    let sound = all_four (sound_entries first) (sound_entries second) (sound_entries w) true
    (passed parts n first second output w scratchLength (first ∷ second ∷ w ∷ []) asked).2 in
    record {
      block = block parts n first second output w scratchLength (first ∷ second ∷ w ∷ []) asked (sound_residues w sound.2);
      first_residues = sound_residues first sound.0;
      second_residues = sound_residues second sound.1;
    }

pub imdct_accepted : (parts n : ℕ) (input first second w : List ℕ) (scratchLength : ℕ)
    → accepted [] ≡ imdct_answer parts n input first second w scratchLength → ImdctAccepted parts n input first second w scratchLength
imdct_accepted parts n input first second w scratchLength asked =
    let sound = all_four (sound_entries input) (sound_entries first) (sound_entries second) (sound_entries w && true)
    (passed parts n input first second w scratchLength (input ∷ first ∷ second ∷ w ∷ []) asked).2 in
    record {
      block = block parts n input first second w scratchLength (input ∷ first ∷ second ∷ w ∷ []) asked (sound_residues w (both_left (sound_entries w) true sound.3));
      input_residues = sound_residues input sound.0;
      first_residues = sound_residues first sound.1;
      second_residues = sound_residues second sound.2;
    }
