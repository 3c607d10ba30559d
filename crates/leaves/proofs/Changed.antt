-- A list of numbers stays one where every second entry is negated (alternated_fits) and where the order is turned round (reversed_fits). Over any arithmetic that keeps its
-- numbers among themselves. Assumes nothing.
use mathlib.Core.Path.{◌≡◌}
use mathlib.Core.List.{List}
use Prim.Native.Nat.{ℕ, zero, suc, ◌+◌, ◌-◌, ◌%◌, ◌<◌}
use native.Mathlib.Omega.{arith}
use lib.ListN.{length}
use Rattle.algorithms.specs.Ops.{Ops, at}
use Rattle.algorithms.specs.Lists.{reversed, turned_by, alternated}
use Rattle.algorithms.proofs.Lists.{length_reversed, get_or_reversed, length_alternated, get_or_alternated}
use Rattle.numbers.specs.Closed.{Closed, AllFit}

turned_by_fits : {A : Type 0} {O : Ops A} {Fits : A → Type 0} → Closed O Fits → (r : ℕ) (v : A) → Fits v → Fits (turned_by O r v)
turned_by_fits closed zero v fits = fits
turned_by_fits closed (suc r) v fits = closed.neg v

module _ {A : Type 0} {O : Ops A} {Fits : A → Type 0} {x : List A} where
  pub alternated_fits : Closed O Fits → AllFit O Fits x → AllFit O Fits (alternated O x)
  alternated_fits closed numbers = record {
    each = λ k below.
        let within : k < length x = rw (length_alternated O x) at below in
        rw (get_or_alternated O x k O.none within) (turned_by_fits closed (k % 2) (at O x k) (numbers.each k within));
  }

  pub reversed_fits : AllFit O Fits x → AllFit O Fits (reversed O x)
  reversed_fits numbers = record {
    each = λ k below.
        let within : k < length x = rw (length_reversed O x) at below in
        let place : k + suc (length x - suc k) ≡ length x = omega arith in
        rw (get_or_reversed O x k (length x - suc k) O.none place) (numbers.each (length x - suc k) (omega arith));
  }
