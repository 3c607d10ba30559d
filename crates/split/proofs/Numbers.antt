-- Lists of numbers: what stands at any place is a number (fit_at), and lists that are given by a function (fit_tab, fit_back), put together (fit_append), read backwards
-- (fit_reversed) or negated by turns (fit_alternated), as is a number that is turned (fit_turned). And the parts of three vectors that follow each other. Over any arithmetic that is closed. Assumes nothing.
use mathlib.Core.Path.{◌≡◌}
use mathlib.Core.List.{List, ◌++◌}
use Prim.Native.Nat.{ℕ, zero, suc, ◌+◌, ◌-◌, ◌%◌, ◌<◌}
use native.Mathlib.Decide.{dec_lt}
use native.Mathlib.Omega.{arith}
use lib.ListN.{length, length-append, get_or-append}
use lib.Seq.{get_or-append-add}
use Rattle.std.proofs.lemmas.List.{get_or_past}
use Rattle.ring.specs.Finite.{tab}
use Rattle.ring.proofs.Table.{length_tab, get_or_tab}
use Rattle.algorithms.specs.Ops.{Ops, at}
use Rattle.algorithms.specs.Lists.{back, reversed, turned, turned_by, alternated}
use Rattle.algorithms.proofs.Lists.{length_reversed, get_or_reversed, length_alternated, get_or_alternated}
use Rattle.numbers.specs.Closed.{Closed, AllFit}

module _ {A : Type 0} {O : Ops A} {Fits : A → Type 0} where
  pub fit_tab : (n : ℕ) (f : ℕ → A) → ((k : ℕ) → Fits (f k)) → AllFit O Fits (tab n f)
  fit_tab n f each = record { each = λ k l. rw (get_or_tab n f k O.none (rw length_tab at l)) (each k) }

  pub fit_back : (n : ℕ) (f : ℕ → A) → ((k : ℕ) → Fits (f k)) → AllFit O Fits (back n f)
  unfolding back
  fit_back n f each = fit_tab n (λ k. f (n - 1 - k)) (λ k. each (n - 1 - k))

  pub fit_append : (x y : List A) → AllFit O Fits x → AllFit O Fits y → AllFit O Fits (x ++ y)
  fit_append x y first second = record {
    each = λ k l. elim (dec_lt k (length x)) [
      | yes low ↦ rw (get_or-append x y O.none k low) (first.each k low)
      | no high ↦
          let place : k ≡ length x + (k - length x) = omega arith in
          rw (place, get_or-append-add x y (k - length x) O.none) (second.each (k - length x) (omega (arith, length-append x y)))
    ];
  }

  pub fit_reversed : (x : List A) → AllFit O Fits x → AllFit O Fits (reversed O x)
  fit_reversed x numbers = record {
    each = λ k l.
        let within : k < length x = rw (length_reversed O x) at l in
        let place : k + suc (length x - suc k) ≡ length x = omega arith in
        rw (get_or_reversed O x k (length x - suc k) O.none place) (numbers.each (length x - suc k) (omega arith));
  }

  module _ (closed : Closed O Fits) where
    pub fit_at : (x : List A) → AllFit O Fits x → (k : ℕ) → Fits (at O x k)
    fit_at x numbers k =
        elim (dec_lt k (length x)) [
          | yes low ↦ numbers.each k low
          | no high ↦ rw (get_or_past x k O.none (omega arith)) closed.none
        ]

    turned_by_fits : (r : ℕ) (v : A) → Fits v → Fits (turned_by O r v)
    turned_by_fits zero v fits = fits
    turned_by_fits (suc r) v fits = closed.neg v

    pub fit_turned : (m : ℕ) (v : A) → Fits v → Fits (turned O m v)
    fit_turned m v = turned_by_fits (m % 2) v

    pub fit_alternated : (x : List A) → AllFit O Fits x → AllFit O Fits (alternated O x)
    fit_alternated x numbers = record {
      each = λ k l.
          let within : k < length x = rw (length_alternated O x) at l in
          rw (get_or_alternated O x k O.none within) (fit_turned k (at O x k) (numbers.each k within));
    }
