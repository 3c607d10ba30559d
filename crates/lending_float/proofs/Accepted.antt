-- A call over f64 that is answered `Ok` has passed its tests (naive_accepted, fast_accepted, naive_block, fast_block). What the tests of a size say (naive_between, even_between; naive_small, even_small).
-- Assumes nothing.
use mathlib.Core.Bool.{Bool, true, ◌&&◌}
use mathlib.Core.List.{[]}
use mathlib.Core.Path.{◌≡◌, subst⁻¹}
use Prim.Native.Nat.{ℕ, ◌*◌, ◌%◌, ◌≤◌}
use lib.Dec.{T, leb, leb→le, eqb, eqb→eq}
use Rattle.answers.specs.Said.{accepted}
use Rattle.ring.proofs.Below.{both_left, both_right}
use Rattle.sums.specs.Call.{block_fits}
use Rattle.sums.specs.Lengths.{lengths_fit}
use Rattle.sums.specs.Size.{allowed_size}
use Rattle.sums.proofs.Sizes.{allowed_exponent}
use Rattle.lending.proofs.Accepted.{ok_passed}
use Rattle.lending.proofs.Lengths.{fit_lengths, fit_block}
use Rattle.floats.specs.Accepted.{Size, NaiveAccepted, FastAccepted, Block, NaiveBlock, FastBlock}
use Rattle.floats.specs.Call.{naive_size, even_size, tabled_fits, naive_block_fits, fast_block_fits, naive_answer, fast_answer, naive_block_answer, fast_block_answer}

-- two tests in a row
both_parts : (a b : Bool) → T (a && b) → T a × T b
both_parts a b t = (both_left a b t, both_right a b t)

pub naive_between : (n : ℕ) → T (naive_size n) → (1 ≤ n) × (n ≤ 1024)
unfolding naive_size
naive_between n t =
    let tests = both_parts (leb 1 n) (leb n 1024) t in
    (leb→le 1 n tests.0, leb→le n 1024 tests.1)

pub even_between : (n : ℕ) → T (even_size n) → (n % 2 ≡ 0) × (2 ≤ n) × (n ≤ 1024)
unfolding even_size
even_between n t =
    let tests = both_parts (eqb (n % 2) 0) (leb 2 n && leb n 1024) t in
    let ends = both_parts (leb 2 n) (leb n 1024) tests.1 in
    (eqb→eq (n % 2) 0 tests.0, leb→le 2 n ends.0, leb→le n 1024 ends.1)

-- a size that was passed is small
pub naive_small : (n : ℕ) → naive_size n ≡ true → n ≤ 1024
naive_small n passed = (naive_between n (subst⁻¹ T passed tt)).1

pub even_small : (n : ℕ) → even_size n ≡ true → n ≤ 1024
even_small n passed = (even_between n (subst⁻¹ T passed tt)).2

allowed : (least n : ℕ) → T (allowed_size least n) → Size least n
allowed least n t =
    let size = allowed_exponent least n t in
    record { exponent = size.0; small = size.1; power = size.2; enough = size.3 }

tabled : (wanted n cosines sines buffer scratch : ℕ) → T (tabled_fits wanted n cosines sines buffer scratch)
    → (cosines ≡ wanted) × (sines ≡ wanted) × (buffer ≡ n) × (n ≤ scratch)
unfolding tabled_fits
tabled wanted n cosines sines buffer scratch t =
    let tests = both_parts (eqb cosines wanted) (eqb sines wanted && lengths_fit buffer n scratch n) t in
    let rest = both_parts (eqb sines wanted) (lengths_fit buffer n scratch n) tests.1 in
    let fit = fit_lengths buffer n scratch n rest.1 in
    (eqb→eq cosines wanted tests.0, eqb→eq sines wanted rest.0, fit.0, fit.1)

pub naive_accepted : (n cosines sines buffer scratch : ℕ) → accepted [] ≡ naive_answer n cosines sines buffer scratch
    → NaiveAccepted n cosines sines buffer scratch
naive_accepted n cosines sines buffer scratch asked =
    let tests = ok_passed (naive_size n) (tabled_fits (4 * n) n cosines sines buffer scratch) [] true asked in
    let size = naive_between n tests.0 in
    let fit = tabled (4 * n) n cosines sines buffer scratch tests.1 in
    record { some = size.0; small = size.1; cosines_length = fit.0; sines_length = fit.1; whole = fit.2; room = fit.3 }

pub fast_accepted : (least n cosines sines buffer scratch : ℕ) → accepted [] ≡ fast_answer least n cosines sines buffer scratch
    → FastAccepted least n cosines sines buffer scratch
fast_accepted least n cosines sines buffer scratch asked =
    let tests = ok_passed (allowed_size least n) (tabled_fits 8192 n cosines sines buffer scratch) [] true asked in
    let fit = tabled 8192 n cosines sines buffer scratch tests.1 in
    record { size = allowed least n tests.0; cosines_length = fit.0; sines_length = fit.1; whole = fit.2; room = fit.3 }

block : (parts n a b c w scratch : ℕ) → T (block_fits parts n a b c w scratch) → Block parts n a b c w scratch
block parts n a b c w scratch t =
    let fit = fit_block parts n a b c w scratch t in
    record { a_length = fit.0; b_length = fit.1; c_length = fit.2; window_length = fit.3; room = fit.4 }

pub naive_block : (n table a b c w scratch : ℕ) → accepted [] ≡ naive_block_answer n table a b c w scratch
    → NaiveBlock n table a b c w scratch
unfolding naive_block_fits
naive_block n table a b c w scratch asked =
    let tests = ok_passed (even_size n) (naive_block_fits n table a b c w scratch) [] true asked in
    let size = even_between n tests.0 in
    let fit = both_parts (eqb table (4 * n)) (block_fits 0 n a b c w scratch) tests.1 in
    record {
      even = size.0;
      enough = size.1;
      small = size.2;
      table_length = eqb→eq table (4 * n) fit.0;
      block = block 0 n a b c w scratch fit.1;
    }

pub fast_block : (n cosines sines a b c w scratch : ℕ) → accepted [] ≡ fast_block_answer n cosines sines a b c w scratch
    → FastBlock n cosines sines a b c w scratch
unfolding fast_block_fits
fast_block n cosines sines a b c w scratch asked =
    let tests = ok_passed (allowed_size 2 n) (fast_block_fits n cosines sines a b c w scratch) [] true asked in
    let fit = both_parts (eqb cosines 8192) (eqb sines 8192 && block_fits 2 n a b c w scratch) tests.1 in
    let rest = both_parts (eqb sines 8192) (block_fits 2 n a b c w scratch) fit.1 in
    record {
      size = allowed 2 n tests.0;
      cosines_length = eqb→eq cosines 8192 fit.0;
      sines_length = eqb→eq sines 8192 rest.0;
      block = block 2 n a b c w scratch rest.1;
    }
