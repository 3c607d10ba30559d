-- Whole turns taken off the first place and the step of an angle sum leave it as it is (angle_sum_turns), and so where one term more is added to it (one_more_turns). Assumes nothing.
use mathlib.Core.Path.{◌≡◌, ◌∙◌, ap, ap₂}
use mathlib.Core.List.{List}
use Prim.Native.Nat.{ℕ, ◌-◌, ◌%◌, ◌<◌}
use native.Mathlib.Nat as Nat
use lib.ListN.{length, take}
use Rattle.ring.proofs.Terms.{terms_ext}
use Rattle.places.proofs.Places.{remainder_short, turns_off}
use Rattle.algorithms.specs.Ops.{Ops, at}
use Rattle.naive_sums.specs.AngleSums.{angle_sum}

module _ {A : Type 0} (O : Ops A) (reads : ℕ → ℕ → A) (turn : ℕ) where
  -- the term at i of an angle sum, by its place
  abbrev pub angle_term : List A → ℕ → ℕ → A
  angle_term x i place = O.mul (at O x i) (reads place turn)

  pub angle_sum_turns : (x : List A) (begin : A) (first step : ℕ)
      → angle_sum O reads turn x begin (first % turn) (step % turn) ≡ angle_sum O reads turn x begin first step
  unfolding angle_sum
  angle_sum_turns x begin first step = terms_ext O.add begin (length x) (λ i below. ap (angle_term x i) (turns_off turn first step i))

  -- the sum of all entries but the last, from a place on by steps of as much, and one term more: of the entry v, at another place
  unfoldable pub one_more : List A → A → ℕ → ℕ → A
  one_more x v step place = O.add (angle_sum O reads turn (take (length x - 1) x) O.nought step step) (O.mul v (reads (place % turn) turn))

  pub one_more_turns : (x : List A) (v : A) (step place : ℕ) → one_more x v (step % turn) (place % turn) ≡ one_more x v step place
  unfolding one_more
  one_more_turns x v step place =
      ap₂ O.add (angle_sum_turns (take (length x - 1) x) O.nought step step) (ap (λ (at : ℕ). O.mul v (reads at turn)) (Nat.mod-mod place turn))

  -- the sum is begun with nought, and one term added, of what is read at the place
  pub one_more_is : (x : List A) (step : ℕ) {v begin sum read result : A} {place : ℕ} → begin ≡ O.nought
      → sum ≡ angle_sum O reads turn (take (length x - 1) x) begin step step → place < turn → read ≡ reads place turn → result ≡ O.add sum (O.mul v read)
      → result ≡ one_more x v step place
  unfolding one_more
  one_more_is x step {v} {place = place} start summed below stands is =
      is
      ∙ ap₂ O.add (summed ∙ ap (λ (a : A). angle_sum O reads turn (take (length x - 1) x) a step step) start)
      (ap (O.mul v) (stands ∙ ap (λ (a : ℕ). reads a turn) (remainder_short place turn below)))
