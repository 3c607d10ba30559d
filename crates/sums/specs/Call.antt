-- Document 01, "Numbers for no" and "Sizes": what each public call over residues answers, and what the lent slices then hold, for all input. The records and what a call
-- makes of its answer are over any type of entry; calls on floats share them. Assumes nothing.
use Rattle.std.specs.Prelude.{Bool, true, not, ◌&&◌, List, [], ◌∷◌, ◌++◌, ℕ, ◌*◌, eqb, length, take, drop}
use Rattle.answers.specs.Said.{Said, accepted, refused}
use Rattle.answers.specs.Refuse.{refuse}
use Rattle.ring.specs.Part.{cleared}
use Rattle.sums.specs.Size.{allowed_size, exponent_of}
use Rattle.sums.specs.Lengths.{lengths_fit}
use Rattle.sums.specs.Bad.{sound_slices}
use Rattle.sums.specs.Transform.{mdct_sum, imdct_sum}
use Rattle.sums.specs.Window.{accepted_window}

-- "first in this order: transforms 1, 2, 3, 4". The tests say that the size, the lengths and the window are in order; the slices are those that are searched for a
-- residue of p or more, in the order in which the call names them
abbrev pub transform_answer : Bool → Bool → List (List ℕ) → Bool → Said
transform_answer size lengths searched window =
    refuse (not size) 1 (refuse (not lengths) 2 (refuse (not (sound_slices searched)) 3 (refuse (not window) 4 (accepted []))))

-- the test of a window for blocks of N: N from 2 to 1024, 2N entries, no scratch
abbrev pub window_answer : ℕ → List ℕ → Said
window_answer N w =
    transform_answer (allowed_size 2 N) (lengths_fit (length w) (2 * N) 0 0) (w ∷ []) (accepted_window N w)

-- a transform in place, of N entries in a buffer and with scratch of N or more; the allowed sizes begin with least
abbrev pub in_place_answer : ℕ → ℕ → List ℕ → ℕ → Said
in_place_answer least N buffer scratchLength =
    transform_answer (allowed_size least N) (lengths_fit (length buffer) N scratchLength N) (buffer ∷ []) true

-- what such a call answers, and what the two lent slices then hold
pub record Outcome (A : Type 0) : Type 0 where
  pub answer : Said
  pub buffer : List A
  pub scratch : List A

abbrev pub outcome : {A : Type 0} → Said → List A → List A → Outcome A
outcome answer buffer scratch = record { answer = answer; buffer = buffer; scratch = scratch }

-- accepted, the buffer is transformed and the scratch that was needed is zero; refused, nothing has changed
abbrev pub outcome_of : {A : Type 0} → A → (List A → List A) → ℕ → List A → List A → Said → Outcome A
outcome_of nought transform N buffer scratch (accepted values) = outcome (accepted values) (transform buffer) (cleared nought N scratch)
outcome_of nought transform N buffer scratch (refused number values) = outcome (refused number values) buffer scratch

-- the promise of every transform in place
abbrev pub in_place : ℕ → (List ℕ → List ℕ) → ℕ → List ℕ → List ℕ → Outcome ℕ
in_place least transform N buffer scratch = outcome_of 0 transform N buffer scratch (in_place_answer least N buffer (length scratch))

-- filling a lent slice of 2N entries with a window for blocks of N = 2^m, by m; what it held is not looked at, and no scratch is lent
abbrev pub fill_answer : ℕ → List ℕ → Said
fill_answer N w = transform_answer (allowed_size 2 N) (lengths_fit (length w) (2 * N) 0 0) [] true

abbrev pub filled : (ℕ → List ℕ) → ℕ → List ℕ → Outcome ℕ
filled window N w = outcome_of 0 (λ held. window (exponent_of N)) 0 w [] (fill_answer N w)

-- the lengths of an MDCT or IMDCT of N: three slices of N, a window of 2N, and scratch of `parts` times N or more: no part for the naive sums, two for the fast way
abbrev pub block_fits : ℕ → ℕ → ℕ → ℕ → ℕ → ℕ → ℕ → Bool
block_fits parts N a b c w scratch = eqb a N && (eqb b N && (eqb c N && lengths_fit w (2 * N) scratch (parts * N)))

abbrev pub block_lengths : ℕ → ℕ → List ℕ → List ℕ → List ℕ → List ℕ → ℕ → Bool
block_lengths parts N a b c w scratchLength = block_fits parts N (length a) (length b) (length c) (length w) scratchLength

-- MDCT reads its two segments and the window, and overwrites its output
abbrev pub mdct_answer : ℕ → ℕ → List ℕ → List ℕ → List ℕ → List ℕ → ℕ → Said
mdct_answer parts N first second output w scratchLength =
    transform_answer (allowed_size 2 N) (block_lengths parts N first second output w scratchLength)
    (first ∷ second ∷ w ∷ [])
    (accepted_window N w)

abbrev pub mdct_call : ℕ → ℕ → List ℕ → List ℕ → List ℕ → List ℕ → List ℕ → Outcome ℕ
mdct_call parts N first second output w scratch =
    outcome_of 0 (λ overwritten. mdct_sum N w (first ++ second)) (parts * N) output scratch
    (mdct_answer parts N first second output w (length scratch))

-- IMDCT reads its input and the window, and adds to both of its outputs
abbrev pub imdct_answer : ℕ → ℕ → List ℕ → List ℕ → List ℕ → List ℕ → ℕ → Said
imdct_answer parts N input first second w scratchLength =
    transform_answer (allowed_size 2 N) (block_lengths parts N input first second w scratchLength)
    (input ∷ first ∷ second ∷ w ∷ [])
    (accepted_window N w)

-- what an IMDCT answers, and what its outputs and its scratch then hold
pub record Spread (A : Type 0) : Type 0 where
  pub answer : Said
  pub first : List A
  pub second : List A
  pub scratch : List A

abbrev pub spread : {A : Type 0} → Said → List A → List A → List A → Spread A
spread answer first second scratch = record { answer = answer; first = first; second = second; scratch = scratch }

-- accepted, the outputs are as they are given here and the scratch that was needed is zero; refused, nothing has changed
abbrev pub spread_of : {A : Type 0} → A → List A → List A → ℕ → List A → List A → List A → Said → Spread A
spread_of nought firstAfter secondAfter needed first second scratch (accepted values) =
    spread (accepted values) firstAfter secondAfter (cleared nought needed scratch)
spread_of nought firstAfter secondAfter needed first second scratch (refused number values) = spread (refused number values) first second scratch

abbrev pub imdct_call : ℕ → ℕ → List ℕ → List ℕ → List ℕ → List ℕ → List ℕ → Spread ℕ
imdct_call parts N input first second w scratch =
    spread_of 0 (take N (imdct_sum N w (first ++ second) input)) (drop N (imdct_sum N w (first ++ second) input)) (parts * N) first second scratch
    (imdct_answer parts N input first second w (length scratch))
