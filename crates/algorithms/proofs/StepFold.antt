-- The turns of the loops that fold and spread (mdct_via_dct4.rs): what they store, from the places where the code reads it. A turn of the fold stores `low_fold`
-- (low_fold_at) or `high_fold`, which reads as the code does; both halves of the output, lent one after the other, are then the fold (fold_written). A turn of the spread stores
-- in both halves of an output and makes the record of its loop one turn more (first_more, second_more), from what it held (first_none, second_none) to the spread
-- (first_all, second_all). Over any type of entry. Assumes nothing.
use mathlib.Core.Path.{◌≡◌, ◌∙◌, ap, ap₂}
use mathlib.Core.List.{List, ◌++◌, append-nil}
use Prim.Native.Nat.{ℕ, ◌+◌, ◌*◌, ◌-◌, ◌<◌, ◌≤◌}
use native.Mathlib.Omega.{arith}
use borrow.Author.Tests.{lt-ltb, le-ltb}
use lib.ListN.{length, take, drop, set, length-drop, drop_of_length-le}
use lib.Seq.{take_at, drop_at}
use Rattle.ring.specs.Finite.{tab}
use Rattle.algorithms.specs.Ops.{Ops, at}
use Rattle.algorithms.specs.Fold.{low_fold, high_fold, folded, first_spread, second_spread, spread_first, spread_second}
use Rattle.algorithms.proofs.StoresHalves.{Halves, halves_none, halves_low, halves_high, halves_more, halves_all}

pub record SpreadingFirst {A : Type 0} (O : Ops A) (g : ℕ) (w d held : List A) (i : ℕ) (out : List A) : Type 0 where
  pub halves : Halves O.none g (first_spread O g w d held) held i out

pub record SpreadingSecond {A : Type 0} (O : Ops A) (g : ℕ) (w d held : List A) (i : ℕ) (out : List A) : Type 0 where
  pub halves : Halves O.none g (second_spread O g w d held) held i out

module _ {A : Type 0} (O : Ops A) (g : ℕ) (w : List A) where
  pub low_fold_at : (second : List A) (i : ℕ) → i < g
      → O.sub (O.neg (O.mul (at O second (g - 1 - i)) (at O w (3 * g - 1 - i)))) (O.mul (at O second (g + i)) (at O w (3 * g + i)))
      ≡ low_fold O g w second i
  low_fold_at second i below =
      let backward : 3 * g - 1 - i ≡ 2 * g + (g - 1 - i) = omega arith in
      let forward : 3 * g + i ≡ 2 * g + (g + i) = omega arith in
      rw (backward, forward)

  pub fold_written : (first second low high out : List A) → length low ≡ g → length out ≡ 2 * g → low ≡ tab g (low_fold O g w second) → high ≡ tab g (high_fold O g w first)
      → take g (low ++ drop (g - 0) out) ++ (high ++ drop (2 * g - g) (drop g (low ++ drop (g - 0) out))) ≡ folded O g w first second
  unfolding folded
  fold_written first second low high out low-all all is-low is-high =
      ap₂ (λ (x y : List A). x ++ (high ++ y)) (take_at low (drop (g - 0) out) g low-all)
      (ap (drop (2 * g - g)) (drop_at low (drop (g - 0) out) g low-all)
      ∙ drop_of_length-le (drop (g - 0) out) {i = 2 * g - g} (rw length-drop (omega arith)))
      ∙ ap (λ (x : List A). low ++ x) (append-nil high) ∙ ap₂ ◌++◌ is-low is-high

  module _ (d held : List A) (size : length held ≡ 2 * g) where
    pub first_none : SpreadingFirst O g w d held 0 held
    first_none = record { halves = halves_none O.none g _ held size }

    pub second_none : SpreadingSecond O g w d held 0 held
    second_none = record { halves = halves_none O.none g _ held size }

module _ {A : Type 0} {O : Ops A} {g : ℕ} {w d held : List A} {i : ℕ} {out : List A} where
  pub first_more : SpreadingFirst O g w d held i out → {v u : A} → i < g
      → v ≡ O.add (at O out i) (O.mul (at O d (g + i)) (at O w i))
      → u ≡ O.sub (at O (set out i v) (g + i)) (O.mul (at O d (2 * g - 1 - i)) (at O w (g + i)))
      → SpreadingFirst O g w d held (i + 1) (set (set out i v) (g + i) u)
  first_more spreading {v} below is-low is-high =
      let place : 3 * g - 1 - (g + i) ≡ 2 * g - 1 - i = omega arith in
      record {
        halves = halves_more spreading.halves below
            (is-low ∙ rw (halves_low spreading.halves below, lt-ltb i g below))
            (is-high ∙ rw (halves_high spreading.halves below v, le-ltb (g + i) g (omega arith), place));
      }

  pub second_more : SpreadingSecond O g w d held i out → {v u : A} → i < g
      → v ≡ O.sub (at O out i) (O.mul (at O d (g - 1 - i)) (at O w (2 * g + i)))
      → u ≡ O.sub (at O (set out i v) (g + i)) (O.mul (at O d i) (at O w (3 * g + i)))
      → SpreadingSecond O g w d held (i + 1) (set (set out i v) (g + i) u)
  second_more spreading {v} below is-low is-high =
      let place : g + i - g ≡ i = omega arith in
      let window : 2 * g + (g + i) ≡ 3 * g + i = omega arith in
      record {
        halves = halves_more spreading.halves below
            (is-low ∙ rw (halves_low spreading.halves below, lt-ltb i g below))
            (is-high ∙ rw (halves_high spreading.halves below v, le-ltb (g + i) g (omega arith), place, window));
      }

  pub first_all : SpreadingFirst O g w d held i out → g ≤ i → out ≡ spread_first O g w d held
  unfolding spread_first
  first_all spreading = halves_all spreading.halves

  pub second_all : SpreadingSecond O g w d held i out → g ≤ i → out ≡ spread_second O g w d held
  unfolding spread_second
  second_all spreading = halves_all spreading.halves
