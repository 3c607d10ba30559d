-- A loop that exchanges the entries at i and as far from the end: after i turns the first i places and the last i hold each other's entries of d, and the
-- places between hold what they held. With none exchanged it is the list d (reversing_none), two stores make it one turn more (reversing_more), and once
-- half of the places are passed it is `reversed` (reversing_all). Over any type of entry, with z past the end. Assumes nothing.
use mathlib.Core.Path.{◌≡◌, refl, sym, ◌∙◌, ap}
use mathlib.Core.List.{List}
use Prim.Native.Nat.{ℕ, ◌+◌, ◌*◌, ◌-◌, ◌/◌, ◌<◌, ◌≤◌}
use native.Mathlib.Decide.{dec_lt}
use native.Mathlib.Omega.{arith}
use borrow.Author.Count.{below_none, below_more}
use lib.ListN.{length, get_or, set, length-set}
use lib.Seq.{ext_get_or, get_or-set_same, get_or-set_other}
use Rattle.algorithms.specs.Ops.{Ops}
use Rattle.algorithms.specs.Lists.{reversed}
use Rattle.algorithms.proofs.Lists.{length_reversed, get_or_reversed}

pub record Reversing {A : Type 0} (z : A) (d : List A) (i : ℕ) (out : List A) : Type 0 where
  pub within : 2 * i ≤ length d
  pub same : length out ≡ length d
  pub front : (m : ℕ) → m < i → get_or out m z ≡ get_or d (length d - 1 - m) z
  pub rear : (m : ℕ) → m < i → get_or out (length d - 1 - m) z ≡ get_or d m z
  pub kept : (m : ℕ) → i ≤ m → m + i < length d → get_or out m z ≡ get_or d m z

pub reversing_none : {A : Type 0} (z : A) (d : List A) → Reversing z d 0 d
reversing_none z d = record {
  within = omega arith;
  same = refl;
  front = below_none (λ m. get_or d m z ≡ get_or d (length d - 1 - m) z);
  rear = below_none (λ m. get_or d (length d - 1 - m) z ≡ get_or d m z);
  kept = λ m above below. refl;
}

module _ {A : Type 0} {z : A} {d : List A} {i : ℕ} {out : List A} (r : Reversing z d i out) where
  pub reversing_more : {a b : A} → i < length d / 2 → a ≡ get_or out (length d - 1 - i) z → b ≡ get_or out i z
      → Reversing z d (i + 1) (set (set out i a) (length d - 1 - i) b)
  reversing_more {a} {b} below is-first is_last = record {
    within = omega arith;
    same = length-set (set out i a) last b ∙ length-set out i a ∙ r.same;
    front = below_more (λ m. get_or after m z ≡ get_or d (length d - 1 - m) z) i
        (λ m l. other m (λ e. omega arith) (λ e. omega arith) ∙ r.front m l)
        (get_or-set_other (set out i a) last i b z (λ e. omega arith) ∙ get_or-set_same out i a z (omega (arith, r.same)) ∙ is-first
        ∙ r.kept last (omega arith) (omega arith));
    rear = below_more (λ m. get_or after (length d - 1 - m) z ≡ get_or d m z) i
        (λ m l. other (length d - 1 - m) (λ e. omega arith) (λ e. omega arith) ∙ r.rear m l)
        (get_or-set_same (set out i a) last b z (rw length-set (omega (arith, r.same))) ∙ is_last ∙ r.kept i (omega arith) (omega arith));
    kept = λ m above below. other m (λ e. omega arith) (λ e. omega arith) ∙ r.kept m (omega arith) (omega arith);
  }
    where
      last : ℕ
      last = length d - 1 - i

      after : List A
      after = set (set out i a) last b

      other : (m : ℕ) → (m ≡ i → ⊥) → (m ≡ last → ⊥) → get_or after m z ≡ get_or out m z
      other m not_first not_last = get_or-set_other (set out i a) last m b z not_last ∙ get_or-set_other out i m a z not_first

module _ {A : Type 0} (O : Ops A) {d : List A} {i : ℕ} {out : List A} (r : Reversing O.none d i out) where
  pub reversing_all : length d / 2 ≤ i → out ≡ reversed O d
  reversing_all past =
      ext_get_or O.none out (reversed O d) (r.same ∙ sym (length_reversed O d))
      (λ m l. placed m (omega (arith, r.same)) ∙ sym (get_or_reversed O d m (length d - 1 - m) O.none (omega (arith, r.same))))
    where
      placed : (m : ℕ) → m < length d → get_or out m O.none ≡ get_or d (length d - 1 - m) O.none
      placed m l =
          elim (dec_lt m i) [
            | yes low ↦ r.front m low
            | no high ↦
                elim (dec_lt (length d - 1 - m) i) [
                  | yes b ↦
                      let place : m ≡ length d - 1 - (length d - 1 - m) = omega arith in
                      ap (λ (k : ℕ). get_or out k O.none) place ∙ r.rear (length d - 1 - m) b
                  | no b ↦
                      let place : m ≡ length d - 1 - m = omega arith in
                      r.kept m (omega arith) (omega arith) ∙ ap (λ (k : ℕ). get_or d k O.none) place
                ]
          ]
