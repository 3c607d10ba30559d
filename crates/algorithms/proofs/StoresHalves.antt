-- A loop that goes over both halves of 2g entries at once: the turn i stores the values f i and f (g + i) at those places. After i turns the places passed hold their
-- values and the others what they held (halves_low, halves_high). With none stored it is the list d (halves_none), two stores make it one turn more (halves_more), and
-- at the end it is the table of f (halves_all). Over any type of entry, with z past the end. Assumes nothing.
use mathlib.Core.Path.{◌≡◌, refl, ◌∙◌}
use mathlib.Core.List.{List}
use Prim.Native.Nat.{ℕ, ◌+◌, ◌*◌, ◌-◌, ◌<◌, ◌≤◌}
use native.Mathlib.Decide.{dec_lt}
use native.Mathlib.Nat as Nat
use native.Mathlib.Omega.{arith}
use borrow.Author.Count.{below_none, below_more}
use lib.ListN.{length, get_or, set, length-set}
use lib.Seq.{get_or-set_same, get_or-set_other}
use Rattle.ring.specs.Finite.{tab}
use Rattle.ring.proofs.Table.{is_tab}

pub record Halves {A : Type 0} (z : A) (g : ℕ) (f : ℕ → A) (d : List A) (i : ℕ) (out : List A) : Type 0 where
  pub within : i ≤ g
  pub size : length out ≡ 2 * g
  pub low : (k : ℕ) → k < i → get_or out k z ≡ f k
  pub high : (k : ℕ) → k < i → get_or out (g + k) z ≡ f (g + k)
  pub low_kept : (k : ℕ) → i ≤ k → k < g → get_or out k z ≡ get_or d k z
  pub high_kept : (k : ℕ) → i ≤ k → get_or out (g + k) z ≡ get_or d (g + k) z

pub halves_none : {A : Type 0} (z : A) (g : ℕ) (f : ℕ → A) (d : List A) → length d ≡ 2 * g → Halves z g f d 0 d
halves_none z g f d size = record {
  within = omega arith;
  size = size;
  low = below_none (λ k. get_or d k z ≡ f k);
  high = below_none (λ k. get_or d (g + k) z ≡ f (g + k));
  low_kept = λ k above below. refl;
  high_kept = λ k above. refl;
}

module _ {A : Type 0} {z : A} {g : ℕ} {f : ℕ → A} {d : List A} {i : ℕ} {out : List A} (halves : Halves z g f d i out) where
  -- the two places of the next turn, the second after the store at the first
  module _ (below : i < g) where
    pub halves_low : get_or out i z ≡ get_or d i z
    halves_low = halves.low_kept i (Nat.le_refl i) below

    pub halves_high : (v : A) → get_or (set out i v) (g + i) z ≡ get_or d (g + i) z
    halves_high v = get_or-set_other out i (g + i) v z (λ e. omega arith) ∙ halves.high_kept i (Nat.le_refl i)

    pub halves_more : {v u : A} → v ≡ f i → u ≡ f (g + i) → Halves z g f d (i + 1) (set (set out i v) (g + i) u)
    halves_more {v} {u} is-low is-high = record {
      within = omega arith;
      size = length-set (set out i v) (g + i) u ∙ length-set out i v ∙ halves.size;
      low = below_more (λ k. get_or after k z ≡ f k) i
          (λ k l. kept k (λ e. omega arith) (λ e. omega arith) ∙ halves.low k l)
          (get_or-set_other (set out i v) (g + i) i u z (λ e. omega arith) ∙ get_or-set_same out i v z (omega (arith, halves.size)) ∙ is-low);
      high = below_more (λ k. get_or after (g + k) z ≡ f (g + k)) i
          (λ k l. kept (g + k) (λ e. omega arith) (λ e. omega arith) ∙ halves.high k l)
          (get_or-set_same (set out i v) (g + i) u z (rw length-set (omega (arith, halves.size))) ∙ is-high);
      low_kept = λ k above under. kept k (λ e. omega arith) (λ e. omega arith) ∙ halves.low_kept k (omega arith) under;
      high_kept = λ k above. kept (g + k) (λ e. omega arith) (λ e. omega arith) ∙ halves.high_kept k (omega arith);
    }
      where
        after : List A
        after = set (set out i v) (g + i) u

        kept : (m : ℕ) → (m ≡ i → ⊥) → (m ≡ g + i → ⊥) → get_or after m z ≡ get_or out m z
        kept m not_low not-high = get_or-set_other (set out i v) (g + i) m u z not-high ∙ get_or-set_other out i m v z not_low

  pub halves_all : g ≤ i → out ≡ tab (2 * g) f
  halves_all past =
      is_tab z out (2 * g) halves.size
      (λ m l.
      elim (dec_lt m g) [
        | yes first ↦ halves.low m (omega arith)
        | no second ↦
            let place : g + (m - g) ≡ m = omega arith in
            rw place at (halves.high (m - g) (omega arith))
      ])
