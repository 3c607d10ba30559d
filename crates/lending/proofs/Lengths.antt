-- `lengths_fit` holds exactly where the buffer has the wanted length and scratch is long enough (fit_lengths, lengths_fit_if). Where `block_fits` holds, each length of an MDCT or
-- IMDCT is as wanted (fit_block). Assumes nothing.
use mathlib.Core.Path.{◌≡◌}
use Prim.Native.Nat.{ℕ, ◌*◌, ◌≤◌}
use lib.Dec.{T, leb, eqb, leb→le, le→leb, eqb→eq}
use Rattle.sums.specs.Call.{block_fits}
use Rattle.sums.specs.Lengths.{lengths_fit}
use Rattle.ring.proofs.Below.{both_left, both_right, both_of, eq→eqb}
use Rattle.lending.proofs.Tests.{all_four}

pub fit_lengths : (buffer wanted scratch needed : ℕ) → T (lengths_fit buffer wanted scratch needed) → (buffer ≡ wanted) × (needed ≤ scratch)
unfolding lengths_fit
fit_lengths buffer wanted scratch needed t = (
  eqb→eq buffer wanted (both_left (eqb buffer wanted) (leb needed scratch) t),
  leb→le needed scratch (both_right (eqb buffer wanted) (leb needed scratch) t),
)

pub lengths_fit_if : (buffer wanted scratch needed : ℕ) → buffer ≡ wanted → needed ≤ scratch → T (lengths_fit buffer wanted scratch needed)
unfolding lengths_fit
lengths_fit_if buffer wanted scratch needed same enough =
    both_of (eqb buffer wanted) (leb needed scratch)
    (eq→eqb buffer wanted same)
    (le→leb needed scratch enough)

pub fit_block : (parts n a b c w scratch : ℕ) → T (block_fits parts n a b c w scratch)
    → (a ≡ n) × (b ≡ n) × (c ≡ n) × (w ≡ 2 * n) × (parts * n ≤ scratch)
fit_block parts n a b c w scratch t =
    let tests = all_four (eqb a n) (eqb b n) (eqb c n) (lengths_fit w (2 * n) scratch (parts * n)) t in
    let fit = fit_lengths w (2 * n) scratch (parts * n) tests.3 in
    (eqb→eq a n tests.0, eqb→eq b n tests.1, eqb→eq c n tests.2, fit.0, fit.1)
