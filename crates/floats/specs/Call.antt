-- What each public call over f64 answers and leaves, for all input: document 01, "Sizes" and "Numbers for no", where floats know 1 and 2 only. A table is lent like any
-- buffer: a wrong length is 2. Windows are lent and not tested. Assumes nothing.
use Rattle.std.specs.Prelude.{Bool, true, ◌&&◌, List, [], ℕ, ◌*◌, ◌%◌, eqb, leb, Float, length}
use Rattle.answers.specs.Said.{Said}
use Rattle.sums.specs.Size.{allowed_size}
use Rattle.sums.specs.Lengths.{lengths_fit}
use Rattle.sums.specs.Call.{transform_answer, Outcome, outcome_of, Spread, spread_of, block_fits}
use Rattle.algorithms.specs.Ops.{Twiddles}
use Rattle.algorithms.specs.Block.{naive_mdct, naive_imdct_first, naive_imdct_second}
use Rattle.algorithms.specs.Fast.{mdct_fast, imdct_fast_first, imdct_fast_second}
use Rattle.floats.specs.Arithmetic.{float_zero, float_ops, table_twiddles}

-- the naive routines of types 2 and 3: from 1 to 1024
unfoldable pub naive_size : ℕ → Bool
naive_size N = leb 1 N && leb N 1024

-- the naive MDCT: even, from 2 to 1024
unfoldable pub even_size : ℕ → Bool
even_size N = eqb (N % 2) 0 && (leb 2 N && leb N 1024)

-- a transform in place of N entries: two tables of as many entries as are wanted, the buffer, and scratch of N or more
unfoldable pub tabled_fits : ℕ → ℕ → ℕ → ℕ → ℕ → ℕ → Bool
tabled_fits wanted N cosines sines buffer scratch = eqb cosines wanted && (eqb sines wanted && lengths_fit buffer N scratch N)

-- by the lengths of what is lent
abbrev pub naive_answer : ℕ → ℕ → ℕ → ℕ → ℕ → Said
naive_answer N cosines sines buffer scratch = transform_answer (naive_size N) (tabled_fits (4 * N) N cosines sines buffer scratch) [] true

abbrev pub fast_answer : ℕ → ℕ → ℕ → ℕ → ℕ → ℕ → Said
fast_answer least N cosines sines buffer scratch = transform_answer (allowed_size least N) (tabled_fits 8192 N cosines sines buffer scratch) [] true

-- the promise of a naive transform in place, the routine being one of `Naive`
abbrev pub naive_call : (Twiddles Float → List Float → List Float) → ℕ → List Float → List Float → List Float → List Float → Outcome Float
naive_call routine N cosines sines buffer scratch =
    outcome_of float_zero (routine (table_twiddles cosines sines)) N buffer scratch
    (naive_answer N (length cosines) (length sines) (length buffer) (length scratch))

-- of a fast one, the routine being one of `Fast`; the allowed sizes begin with least
abbrev pub fast_call : ℕ → (Twiddles Float → List Float → List Float) → ℕ → List Float → List Float → List Float → List Float → Outcome Float
fast_call least routine N cosines sines buffer scratch =
    outcome_of float_zero (routine (table_twiddles cosines sines)) N buffer scratch
    (fast_answer least N (length cosines) (length sines) (length buffer) (length scratch))

-- MDCT and IMDCT are lent three slices of N entries and a window of 2N. The naive ones need one table of 4N and no scratch, the fast ones two of 8,192 and scratch of 2N
unfoldable pub naive_block_fits : ℕ → ℕ → ℕ → ℕ → ℕ → ℕ → ℕ → Bool
naive_block_fits N table a b c w scratch = eqb table (4 * N) && block_fits 0 N a b c w scratch

unfoldable pub fast_block_fits : ℕ → ℕ → ℕ → ℕ → ℕ → ℕ → ℕ → ℕ → Bool
fast_block_fits N cosines sines a b c w scratch = eqb cosines 8192 && (eqb sines 8192 && block_fits 2 N a b c w scratch)

abbrev pub naive_block_answer : ℕ → ℕ → ℕ → ℕ → ℕ → ℕ → ℕ → Said
naive_block_answer N table a b c w scratch = transform_answer (even_size N) (naive_block_fits N table a b c w scratch) [] true

abbrev pub fast_block_answer : ℕ → ℕ → ℕ → ℕ → ℕ → ℕ → ℕ → ℕ → Said
fast_block_answer N cosines sines a b c w scratch = transform_answer (allowed_size 2 N) (fast_block_fits N cosines sines a b c w scratch) [] true

-- the promises of the MDCT, which overwrites its output
abbrev pub mdct_naive_call : ℕ → List Float → List Float → List Float → List Float → List Float → List Float → Outcome Float
mdct_naive_call N table first second output w scratch =
    outcome_of float_zero (λ overwritten. naive_mdct float_ops N table w first second) 0 output scratch
    (naive_block_answer N (length table) (length first) (length second) (length output) (length w) (length scratch))

abbrev pub mdct_fast_call : ℕ → List Float → List Float → List Float → List Float → List Float → List Float → List Float → Outcome Float
mdct_fast_call N cosines sines first second output w scratch =
    outcome_of float_zero (λ overwritten. mdct_fast float_ops (table_twiddles cosines sines) N w first second) (2 * N) output scratch
    (fast_block_answer N (length cosines) (length sines) (length first) (length second) (length output) (length w) (length scratch))

-- and of the IMDCT, which adds to both of its outputs
abbrev pub imdct_naive_call : ℕ → List Float → List Float → List Float → List Float → List Float → List Float → Spread Float
imdct_naive_call N table input first second w scratch =
    spread_of float_zero (naive_imdct_first float_ops N table w input first) (naive_imdct_second float_ops N table w input second) 0 first second scratch
    (naive_block_answer N (length table) (length input) (length first) (length second) (length w) (length scratch))

abbrev pub imdct_fast_call : ℕ → List Float → List Float → List Float → List Float → List Float → List Float → List Float → Spread Float
imdct_fast_call N cosines sines input first second w scratch =
    spread_of float_zero (imdct_fast_first float_ops (table_twiddles cosines sines) N w input first)
    (imdct_fast_second float_ops (table_twiddles cosines sines) N w input second)
    (2 * N)
    first
    second
    scratch
    (fast_block_answer N (length cosines) (length sines) (length input) (length first) (length second) (length w) (length scratch))
