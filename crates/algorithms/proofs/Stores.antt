-- A loop that in the turn i stores at the four places i, 2q − 1 − i, 2q + i and 4q − 1 − i: after i turns those of the turns before hold their values.
-- With none stored it is any list of 4q entries (quartered_none), four stores make it one turn more (quartered_more), and at the end it is `quarters`
-- (quartered_all). Over any type of entry, with z past the end. Assumes nothing.
use mathlib.Core.Path.{◌≡◌, sym, ◌∙◌, ap}
use mathlib.Core.List.{List}
use Prim.Native.Nat.{ℕ, ◌+◌, ◌*◌, ◌-◌, ◌<◌, ◌≤◌}
use native.Mathlib.Omega.{arith}
use borrow.Author.Count.{below_none, below_more}
use lib.ListN.{length, get_or, set, length-set}
use lib.Seq.{ext_get_or, get_or-set_same, get_or-set_other}
use Rattle.algorithms.specs.Lists.{quarters}
use Rattle.algorithms.proofs.Lists.{Quarter, first, second, third, fourth, quarter, length_quarters, quarters_first, quarters_second, quarters_third, quarters_fourth}

-- four stores one after the other, at four places
module _ {A : Type 0} (z : A) (out : List A) (a b c d : ℕ) (s t u v : A) where
  abbrev pub four_set : List A
  four_set = set (set (set (set out a s) b t) c u) d v

  pub length_four : length four_set ≡ length out
  length_four = simp length-set

  pub four_other : (m : ℕ) → (m ≡ a → ⊥) → (m ≡ b → ⊥) → (m ≡ c → ⊥) → (m ≡ d → ⊥) → get_or four_set m z ≡ get_or out m z
  four_other m na nb nc nd =
      get_or-set_other (set (set (set out a s) b t) c u) d m v z nd ∙ get_or-set_other (set (set out a s) b t) c m u z nc
      ∙ get_or-set_other (set out a s) b m t z nb ∙ get_or-set_other out a m s z na

  pub four_first : a < length out → (a ≡ b → ⊥) → (a ≡ c → ⊥) → (a ≡ d → ⊥) → get_or four_set a z ≡ s
  four_first l nb nc nd =
      get_or-set_other (set (set (set out a s) b t) c u) d a v z nd ∙ get_or-set_other (set (set out a s) b t) c a u z nc
      ∙ get_or-set_other (set out a s) b a t z nb ∙ get_or-set_same out a s z l

  pub four_second : b < length out → (b ≡ c → ⊥) → (b ≡ d → ⊥) → get_or four_set b z ≡ t
  four_second l nc nd =
      get_or-set_other (set (set (set out a s) b t) c u) d b v z nd ∙ get_or-set_other (set (set out a s) b t) c b u z nc
      ∙ get_or-set_same (set out a s) b t z (rw length-set l)

  pub four_third : c < length out → (c ≡ d → ⊥) → get_or four_set c z ≡ u
  four_third l nd =
      get_or-set_other (set (set (set out a s) b t) c u) d c v z nd ∙ get_or-set_same (set (set out a s) b t) c u z (simp length-set l)

  pub four_fourth : d < length out → get_or four_set d z ≡ v
  four_fourth l = get_or-set_same (set (set (set out a s) b t) c u) d v z (simp length-set l)

pub record Quartered {A : Type 0} (z : A) (q : ℕ) (a b c d : ℕ → A) (i : ℕ) (out : List A) : Type 0 where
  pub within : i ≤ q
  pub size : length out ≡ 4 * q
  pub in_first : (k : ℕ) → k < i → get_or out k z ≡ a k
  pub in_second : (k : ℕ) → k < i → get_or out (2 * q - 1 - k) z ≡ b k
  pub in_third : (k : ℕ) → k < i → get_or out (2 * q + k) z ≡ c k
  pub in_fourth : (k : ℕ) → k < i → get_or out (4 * q - 1 - k) z ≡ d k

pub quartered_none : {A : Type 0} (z : A) (q : ℕ) (a b c d : ℕ → A) {out : List A} → length out ≡ 4 * q → Quartered z q a b c d 0 out
quartered_none z q a b c d {out} size = record {
  within = omega arith;
  size = size;
  in_first = below_none (λ k. get_or out k z ≡ a k);
  in_second = below_none (λ k. get_or out (2 * q - 1 - k) z ≡ b k);
  in_third = below_none (λ k. get_or out (2 * q + k) z ≡ c k);
  in_fourth = below_none (λ k. get_or out (4 * q - 1 - k) z ≡ d k);
}

module _ {A : Type 0} {z : A} {q : ℕ} {a b c d : ℕ → A} {i : ℕ} {out : List A} (filled : Quartered z q a b c d i out) where
  pub quartered_more : {s t u v : A} → i < q → s ≡ a i → t ≡ b i → u ≡ c i → v ≡ d i
      → Quartered z q a b c d (i + 1) (set (set (set (set out i s) (2 * q - 1 - i) t) (2 * q + i) u) (4 * q - 1 - i) v)
  quartered_more {s} {t} {u} {v} below is-first is-second is-third is-fourth = record {
    within = omega arith;
    size = length_four z out i (2 * q - 1 - i) (2 * q + i) (4 * q - 1 - i) s t u v ∙ filled.size;
    in_first = below_more (λ k. get_or after k z ≡ a k) i
        (λ k l. kept k (λ e. omega arith) (λ e. omega arith) (λ e. omega arith) (λ e. omega arith) ∙ filled.in_first k l)
        (four_first z out i (2 * q - 1 - i) (2 * q + i) (4 * q - 1 - i) s t u v (omega arith) (λ e. omega arith) (λ e. omega arith) (λ e. omega arith)
        ∙ is-first);
    in_second = below_more (λ k. get_or after (2 * q - 1 - k) z ≡ b k) i
        (λ k l. kept (2 * q - 1 - k) (λ e. omega arith) (λ e. omega arith) (λ e. omega arith) (λ e. omega arith) ∙ filled.in_second k l)
        (four_second z out i (2 * q - 1 - i) (2 * q + i) (4 * q - 1 - i) s t u v (omega arith) (λ e. omega arith) (λ e. omega arith) ∙ is-second);
    in_third = below_more (λ k. get_or after (2 * q + k) z ≡ c k) i
        (λ k l. kept (2 * q + k) (λ e. omega arith) (λ e. omega arith) (λ e. omega arith) (λ e. omega arith) ∙ filled.in_third k l)
        (four_third z out i (2 * q - 1 - i) (2 * q + i) (4 * q - 1 - i) s t u v (omega arith) (λ e. omega arith) ∙ is-third);
    in_fourth = below_more (λ k. get_or after (4 * q - 1 - k) z ≡ d k) i
        (λ k l. kept (4 * q - 1 - k) (λ e. omega arith) (λ e. omega arith) (λ e. omega arith) (λ e. omega arith) ∙ filled.in_fourth k l)
        (four_fourth z out i (2 * q - 1 - i) (2 * q + i) (4 * q - 1 - i) s t u v (omega arith) ∙ is-fourth);
  }
    where
      after : List A
      after = set (set (set (set out i s) (2 * q - 1 - i) t) (2 * q + i) u) (4 * q - 1 - i) v

      kept : (m : ℕ) → (m ≡ i → ⊥) → (m ≡ 2 * q - 1 - i → ⊥) → (m ≡ 2 * q + i → ⊥) → (m ≡ 4 * q - 1 - i → ⊥) → get_or after m z ≡ get_or out m z
      kept m = four_other z out i (2 * q - 1 - i) (2 * q + i) (4 * q - 1 - i) s t u v m

  pub quartered_all : q ≤ i → out ≡ quarters q a b c d
  quartered_all past =
      ext_get_or z out (quarters q a b c d) (filled.size ∙ sym (length_quarters q a b c d)) (λ m l. at_quarter m (quarter q m (omega (arith, filled.size))))
    where
      at_quarter : (m : ℕ) → Quarter q m → get_or out m z ≡ get_or (quarters q a b c d) m z
      at_quarter m (first k l e) =
          ap (λ (n : ℕ). get_or out n z) e ∙ filled.in_first k (omega arith)
          ∙ sym (ap (λ (n : ℕ). get_or (quarters q a b c d) n z) e ∙ quarters_first q a b c d z k l)
      at_quarter m (second k l e) =
          let place : m ≡ 2 * q - 1 - k = omega arith in
          ap (λ (n : ℕ). get_or out n z) place ∙ filled.in_second k (omega arith) ∙ sym (quarters_second q a b c d z m k l e)
      at_quarter m (third k l e) =
          ap (λ (n : ℕ). get_or out n z) e ∙ filled.in_third k (omega arith)
          ∙ sym (ap (λ (n : ℕ). get_or (quarters q a b c d) n z) e ∙ quarters_third q a b c d z k l)
      at_quarter m (fourth k l e) =
          let place : m ≡ 4 * q - 1 - k = omega arith in
          ap (λ (n : ℕ). get_or out n z) place ∙ filled.in_fourth k (omega arith) ∙ sym (quarters_fourth q a b c d z m k l e)
