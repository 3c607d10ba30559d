-- The loop that stores at each place of a list the value of two places, a first one and a step: after k turns both have grown k times, and the first k values are
-- stored. None yet (listed_none), one more (listed_more), where whole turns taken off the places leave a value as it is, and at the end (listed_all).
-- Over any type of entry, with z past the end. Assumes nothing.
use mathlib.Core.Path.{◌≡◌, ◌∙◌, ap₂}
use mathlib.Core.List.{List}
use Prim.Native.Nat.{ℕ, ◌+◌, ◌*◌, ◌%◌, ◌<◌, ◌≤◌}
use native.Mathlib.Omega.{arith}
use lib.ListN.{length, set}
use Rattle.ring.specs.Finite.{tab}
use Rattle.ring.proofs.Filled.{Filled, filled_none, filled_more, filled_all}
use Rattle.places.proofs.Places.{place_first, place_onward, place_below}

-- the value at k
abbrev value_at : {A : Type 0} → (ℕ → ℕ → A) → ℕ → ℕ → ℕ → ℕ → ℕ → A
value_at value first firstMore step stepMore k = value (first + k * firstMore) (step + k * stepMore)

pub record Listed {A : Type 0} (z : A) (turn : ℕ) (value : ℕ → ℕ → A) (first firstMore step stepMore : ℕ) (d : List A) (k firstNow stepNow : ℕ) (out : List A)
    : Type 0 where
  pub first_below : firstNow < turn
  pub step_below : stepNow < turn
  pub first_place_is : firstNow ≡ (first + k * firstMore) % turn
  pub step_place : stepNow ≡ (step + k * stepMore) % turn
  pub filled : Filled z (value_at value first firstMore step stepMore) d k out

pub listed_none : {A : Type 0} (z : A) {turn first step : ℕ} (value : ℕ → ℕ → A) (firstMore stepMore : ℕ) (d : List A) → first < turn → step < turn
    → Listed z turn value first firstMore step stepMore d 0 first step d
listed_none z {turn} {first} {step} value firstMore stepMore d firstBelow stepBelow = record {
  first_below = firstBelow;
  step_below = stepBelow;
  first_place_is = place_first turn first firstMore firstBelow;
  step_place = place_first turn step stepMore stepBelow;
  filled = filled_none z _ d;
}

module _ {A : Type 0} {z : A} {turn first firstMore step stepMore : ℕ} {value : ℕ → ℕ → A} {d : List A} {k firstNow stepNow : ℕ} {out : List A}
    (l : Listed z turn value first firstMore step stepMore d k firstNow stepNow out) where
  pub listed_more : {v : A} {firstNext stepNext : ℕ} → ((a b : ℕ) → value (a % turn) (b % turn) ≡ value a b) → k < length out → v ≡ value firstNow stepNow
      → firstNext ≡ (firstNow + firstMore) % turn → stepNext ≡ (stepNow + stepMore) % turn
      → Listed z turn value first firstMore step stepMore d (k + 1) firstNext stepNext (set out k v)
  listed_more turns within is firstOn stepOn = record {
    first_below = place_below turn (firstNow + firstMore) above firstOn;
    step_below = place_below turn (stepNow + stepMore) above stepOn;
    first_place_is = place_onward turn first firstMore k l.first_place_is firstOn;
    step_place = place_onward turn step stepMore k l.step_place stepOn;
    filled = filled_more l.filled within
        (is ∙ ap₂ value l.first_place_is l.step_place ∙ turns (first + k * firstMore) (step + k * stepMore));
  }
    where
      above : 0 < turn
      above = omega (arith, l.first_below)

  pub listed_all : length out ≤ k → out ≡ tab (length d) (value_at value first firstMore step stepMore)
  listed_all past = filled_all l.filled past
