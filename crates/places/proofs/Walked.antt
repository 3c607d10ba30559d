-- The loop that adds up terms while it walks a table: after i turns the place is that of i steps, whole turns of the table taken off, and the sum that of the first i terms.
-- It begins with no term (walked_none), a turn adds one (walked_more), and at the end the sum is whole (walked_all). Over any type of entry. Assumes nothing.
use mathlib.Core.Path.{◌≡◌, sym, ◌∙◌, ap, ap₂}
use Prim.Native.Nat.{ℕ, ◌+◌, ◌*◌, ◌%◌, ◌<◌, ◌≤◌}
use native.Mathlib.Nat as Nat
use native.Mathlib.Omega.{arith}
use Rattle.ring.specs.Finite.{sum_of}
use Rattle.ring.proofs.Terms.{terms_none, terms_more}
use Rattle.places.proofs.Places.{place_first, place_onward}

-- a term is a function of its index and of its place
abbrev pub walked_sum : {A : Type 0} → (A → A → A) → A → ℕ → ℕ → ℕ → (ℕ → ℕ → A) → ℕ → A
walked_sum add begin turn first step term m = sum_of add begin m (λ j. term j ((first + j * step) % turn))

pub record Walked {A : Type 0} (add : A → A → A) (begin : A) (turn m first step : ℕ) (term : ℕ → ℕ → A) (i at : ℕ) (held : A) : Type 0 where
  pub within : i ≤ m
  pub below : at < turn
  pub place : at ≡ (first + i * step) % turn
  pub total : held ≡ walked_sum add begin turn first step term i

pub walked_none : {A : Type 0} (add : A → A → A) (begin : A) (turn m first step : ℕ) (term : ℕ → ℕ → A) {held : A} → first < turn → held ≡ begin
    → Walked add begin turn m first step term 0 first held
walked_none add begin turn m first step term below is = record {
  within = omega arith;
  below = below;
  place = place_first turn first step below;
  total = is ∙ sym (terms_none add begin _);
}

module _ {A : Type 0} {add : A → A → A} {begin : A} {turn m first step : ℕ} {term : ℕ → ℕ → A} {i at : ℕ} {held : A}
    (w : Walked add begin turn m first step term i at held) where
  pub walked_more : {next : A} {after : ℕ} → i < m → next ≡ add held (term i at) → after ≡ (at + step) % turn
      → Walked add begin turn m first step term (i + 1) after next
  walked_more less onward turned = record {
    within = omega arith;
    below = rw turned (Nat.mod-lt (at + step) (omega (arith, w.below)));
    place = place_onward turn first step i w.place turned;
    total = onward ∙ ap₂ add w.total (ap (term i) w.place) ∙ sym (terms_more add begin i _);
  }

  pub walked_all : m ≤ i → held ≡ walked_sum add begin turn first step term m
  walked_all past = w.total ∙ ap (walked_sum add begin turn first step term) (Nat.le_antisymm w.within past)
