-- A call that is answered `Ok` has passed its tests (ok_passed; of one slice entries_passed; in place in_place_accepted and, back, accepted_answered). What is accepted
-- has at most 1024 entries (accepted_small). A call that then does its work has the outcome that is promised (outcome_of_ok). Assumes nothing.
use mathlib.Core.Bool.{Bool, true, false, not}
use mathlib.Core.List.{List, [], ◌∷◌}
use mathlib.Core.Path.{◌≡◌, sym, ◌∙◌, ap, subst}
use Prim.Native.Nat.{ℕ, ◌^◌, ◌≤◌}
use native.Mathlib.Omega.{arith}
use lib.Dec.{T}
use lib.ListN.{length}
use lib.Pow.{pow_mono}
use Rattle.answers.specs.Refuse.{refuse}
use Rattle.answers.specs.Said.{Said, accepted, refused}
use Rattle.ring.proofs.Below.{true_is, both_left, both_of}
use Rattle.ring.specs.Part.{cleared}
use Rattle.sums.specs.Bad.{sound_entries, sound_slices}
use Rattle.sums.specs.Call.{transform_answer, in_place_answer, outcome, outcome_of}
use Rattle.sums.specs.Lengths.{lengths_fit}
use Rattle.sums.specs.Residue.{Residues}
use Rattle.sums.specs.Size.{allowed_size}
use Rattle.sums.proofs.Sizes.{allowed_exponent, exponent_allowed}
use Rattle.lending.specs.Accepted.{Accepted}
use Rattle.lending.proofs.Bad.{sound_residues, residues_sound}
use Rattle.lending.proofs.Lengths.{fit_lengths, lengths_fit_if}

abbrev is_accepted : Said → Bool
is_accepted (accepted values) = true
is_accepted (refused number values) = false

-- only where all tests hold is it accepted
all_passed : (size lengths residues window : Bool)
    → T (is_accepted (refuse (not size) 1 (refuse (not lengths) 2 (refuse (not residues) 3 (refuse (not window) 4 (accepted []))))))
    → T size × T lengths × T residues × T window
all_passed true true true true t = (tt, tt, tt, tt)
all_passed true true true false t = absurd t
all_passed true true false window t = absurd t
all_passed true false residues window t = absurd t
all_passed false lengths residues window t = absurd t

pub ok_passed : (size lengths : Bool) (searched : List (List ℕ)) (window : Bool)
    → accepted [] ≡ transform_answer size lengths searched window → T size × T lengths × T (sound_slices searched) × T window
ok_passed size lengths searched window asked =
    all_passed size lengths (sound_slices searched) window (subst (λ (s : Said). T (is_accepted s)) asked tt)

-- a call that looks at one slice
pub entries_passed : (least n wanted scratchLength needed : ℕ) (buffer : List ℕ)
    → accepted [] ≡ transform_answer (allowed_size least n) (lengths_fit (length buffer) wanted scratchLength needed) (buffer ∷ []) true
    → T (allowed_size least n) × (length buffer ≡ wanted) × (needed ≤ scratchLength) × Residues buffer
entries_passed least n wanted scratchLength needed buffer asked =
    let tests = ok_passed (allowed_size least n) (lengths_fit (length buffer) wanted scratchLength needed) (buffer ∷ []) true asked in
    let fit = fit_lengths (length buffer) wanted scratchLength needed tests.1 in
    (tests.0, fit.0, fit.1, sound_residues buffer (both_left (sound_entries buffer) true tests.2))

pub in_place_accepted : (least n : ℕ) (buffer : List ℕ) (scratchLength : ℕ) → accepted [] ≡ in_place_answer least n buffer scratchLength
    → Accepted least n buffer scratchLength
in_place_accepted least n buffer scratchLength asked =
    let tests = entries_passed least n n scratchLength n buffer asked in
    let size = allowed_exponent least n tests.0 in
    record {
      exponent = size.0;
      small = size.1;
      power = size.2;
      enough = size.3;
      whole = tests.1;
      room = tests.2;
      residues = tests.3;
    }

pub accepted_small : {least n k : ℕ} {buffer : List ℕ} → Accepted least n buffer k → n ≤ 1024
accepted_small a = let most : 2 ^ a.exponent ≤ 1024 = pow_mono a.small in omega (arith, a.power)

-- the outcome of a call that was answered `Ok` and did what it promises
pub outcome_of_ok : {A : Type 0} (nought : A) (transform : List A → List A) (n : ℕ) (buffer scratch : List A) {decided : Said} → accepted [] ≡ decided
    → {buffer' scratch' : List A} → buffer' ≡ transform buffer → scratch' ≡ cleared nought n scratch
    → outcome (accepted []) buffer' scratch' ≡ outcome_of nought transform n buffer scratch decided
outcome_of_ok nought transform n buffer scratch asked stored zeroed =
    (λ i. outcome (accepted []) (stored i) (zeroed i)) ∙ ap (outcome_of nought transform n buffer scratch) asked

-- a call whose tests are passed is answered `Ok`
pub accepted_answered : {least n : ℕ} {buffer : List ℕ} {scratchLength : ℕ} → Accepted least n buffer scratchLength
    → in_place_answer least n buffer scratchLength ≡ accepted []
accepted_answered {least} {n} {buffer} {scratchLength} a =
    (λ i.
    refuse (not (holds (allowed_size least n) size i)) 1
    (refuse (not (holds (lengths_fit (length buffer) n scratchLength n) fit i)) 2
    (refuse (not (holds (sound_slices (buffer ∷ [])) sound i)) 3 (accepted []))))
  where
    holds : (test : Bool) → T test → test ≡ true
    holds test t = sym (true_is test t)

    sound : T (sound_slices (buffer ∷ []))
    sound = both_of (sound_entries buffer) true (residues_sound buffer a.residues) tt

    size : T (allowed_size least n)
    size = subst (λ (m : ℕ). T (allowed_size least m)) (sym a.power) (exponent_allowed least a.exponent a.small (subst (λ (m : ℕ). least ≤ m) a.power a.enough))

    fit : T (lengths_fit (length buffer) n scratchLength n)
    fit = lengths_fit_if (length buffer) n scratchLength n a.whole a.room
