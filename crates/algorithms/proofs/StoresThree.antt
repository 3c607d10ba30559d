-- The loop that deals 4q entries out to three lists, of 2q, q and q entries, which follow each other: its turn i stores at 2i, 2i + 1, 2q + i and 4q − i, and
-- the turn before the loop at 0, 1, 2q and 3q. It makes the record of one turn (dealt_first), four stores make it one turn more (dealt_more), and at the end the
-- three lists are there (dealt_all). With the values of split radix, this is `split_three` (splitting_first, splitting_more, splitting_all).
-- Over any type of entry, with z past the end. Assumes nothing.
use mathlib.Core.Path.{◌≡◌, sym, ◌∙◌, ap, ap₂}
use mathlib.Core.List.{List, ◌++◌}
use Prim.Native.Nat.{ℕ, zero, suc, ◌+◌, ◌*◌, ◌-◌, ◌<◌, ◌≤◌}
use native.Mathlib.Nat as Nat
use native.Mathlib.Decide.{dec_lt}
use native.Mathlib.Omega.{arith}
use borrow.Author.Count.{below_none, below_more}
use lib.ListN.{length, get_or, set, length-append, get_or-append}
use lib.Seq.{ext_get_or}
use Rattle.ring.specs.Finite.{tab}
use Rattle.ring.proofs.Table.{length_tab, get_or_tab}
use Rattle.algorithms.specs.Ops.{Ops, at}
use Rattle.algorithms.specs.Split.{input_evens, one_input, input_one, three_input, input_three, split_three}
use Rattle.algorithms.proofs.Lists.{get_d_after}
use Rattle.algorithms.proofs.Stores.{length_four, four_other, four_first, four_second, four_third, four_fourth}

-- the third list is filled from its end, but for its first entry
pub record Dealt {A : Type 0} (z : A) (q : ℕ) (a b c : ℕ → A) (i : ℕ) (out : List A) : Type 0 where
  pub some : 1 ≤ i
  pub within : i ≤ q
  pub size : length out ≡ 4 * q
  pub in_first : (k : ℕ) → k < 2 * i → get_or out k z ≡ a k
  pub in_second : (k : ℕ) → k < i → get_or out (2 * q + k) z ≡ b k
  pub third_begins : get_or out (3 * q) z ≡ c 0
  pub in_third : (k : ℕ) → k < q → q < k + i → get_or out (3 * q + k) z ≡ c k

-- two more of a family
two_more : (P : ℕ → Type 0) (i : ℕ) → ((k : ℕ) → k < 2 * i → P k) → P (2 * i) → P (2 * i + 1) → (k : ℕ) → k < 2 * (i + 1) → P k
two_more P i before first second k l = below_more P (2 * i + 1) (below_more P (2 * i) before first) second k (omega arith)

module _ {A : Type 0} {z : A} {q : ℕ} {a b c : ℕ → A} where
  pub dealt_first : (out : List A) {s t u v : A} → 1 ≤ q → length out ≡ 4 * q → s ≡ a 0 → t ≡ a 1 → u ≡ b 0 → v ≡ c 0
      → Dealt z q a b c 1 (set (set (set (set out 0 s) 1 t) (2 * q) u) (3 * q) v)
  dealt_first out {s} {t} {u} {v} some size is-first is-second is-third is-fourth = record {
    some = omega arith;
    within = some;
    size = length_four z out 0 1 (2 * q) (3 * q) s t u v ∙ size;
    in_first = two_more (λ k. get_or after k z ≡ a k) 0 (below_none (λ k. get_or after k z ≡ a k))
        (four_first z out 0 1 (2 * q) (3 * q) s t u v (omega arith) (λ e. omega arith) (λ e. omega arith) (λ e. omega arith) ∙ is-first)
        (four_second z out 0 1 (2 * q) (3 * q) s t u v (omega arith) (λ e. omega arith) (λ e. omega arith) ∙ is-second);
    in_second = below_more (λ k. get_or after (2 * q + k) z ≡ b k) 0 (below_none (λ k. get_or after (2 * q + k) z ≡ b k))
        (rw Nat.add-zero (four_third z out 0 1 (2 * q) (3 * q) s t u v (omega arith) (λ e. omega arith) ∙ is-third));
    third_begins = four_fourth z out 0 1 (2 * q) (3 * q) s t u v (omega arith) ∙ is-fourth;
    in_third = λ k l above. absurd (Nat.lt_irrefl k (omega arith));
  }
    where
      after : List A
      after = set (set (set (set out 0 s) 1 t) (2 * q) u) (3 * q) v

  module _ {i : ℕ} {out : List A} (dealt : Dealt z q a b c i out) where
    pub dealt_more : {s t u v : A} → i < q → s ≡ a (2 * i) → t ≡ a (2 * i + 1) → u ≡ b i → v ≡ c (q - i)
        → Dealt z q a b c (i + 1) (set (set (set (set out (2 * i) s) (2 * i + 1) t) (2 * q + i) u) (4 * q - i) v)
    dealt_more {s} {t} {u} {v} below is-first is-second is-third is-fourth = record {
      some = omega arith;
      within = omega arith;
      size = length_four z out (2 * i) (2 * i + 1) (2 * q + i) (4 * q - i) s t u v ∙ dealt.size;
      in_first = two_more (λ k. get_or after k z ≡ a k) i
          (λ k l. kept k (λ e. omega arith) (λ e. omega arith) (λ e. omega arith) (λ e. omega arith) ∙ dealt.in_first k l)
          (four_first z out (2 * i) (2 * i + 1) (2 * q + i) (4 * q - i) s t u v (omega arith) (λ e. omega arith) (λ e. omega arith) (λ e. omega arith)
          ∙ is-first)
          (four_second z out (2 * i) (2 * i + 1) (2 * q + i) (4 * q - i) s t u v (omega arith) (λ e. omega arith) (λ e. omega arith) ∙ is-second);
      in_second = below_more (λ k. get_or after (2 * q + k) z ≡ b k) i
          (λ k l. kept (2 * q + k) (λ e. omega arith) (λ e. omega arith) (λ e. omega arith) (λ e. omega arith) ∙ dealt.in_second k l)
          (four_third z out (2 * i) (2 * i + 1) (2 * q + i) (4 * q - i) s t u v (omega arith) (λ e. omega arith) ∙ is-third);
      third_begins = kept (3 * q) (λ e. omega arith) (λ e. omega arith) (λ e. omega arith) (λ e. omega arith) ∙ dealt.third_begins;
      in_third = λ k l above.
          elim (dec_lt q (k + i)) [
            | yes passed ↦
                kept (3 * q + k) (λ e. omega arith) (λ e. omega arith) (λ e. omega arith) (λ e. omega arith) ∙ dealt.in_third k l passed
            | no new ↦
                let place : 3 * q + k ≡ 4 * q - i = omega arith in
                let entry : q - i ≡ k = omega arith in
                ap (λ (m : ℕ). get_or after m z) place
                ∙ four_fourth z out (2 * i) (2 * i + 1) (2 * q + i) (4 * q - i) s t u v (omega arith) ∙ is-fourth ∙ ap c entry
          ];
    }
      where
        after : List A
        after = set (set (set (set out (2 * i) s) (2 * i + 1) t) (2 * q + i) u) (4 * q - i) v

        kept : (m : ℕ) → (m ≡ 2 * i → ⊥) → (m ≡ 2 * i + 1 → ⊥) → (m ≡ 2 * q + i → ⊥) → (m ≡ 4 * q - i → ⊥) → get_or after m z ≡ get_or out m z
        kept m = four_other z out (2 * i) (2 * i + 1) (2 * q + i) (4 * q - i) s t u v m

    pub dealt_all : q ≤ i → out ≡ tab (2 * q) a ++ (tab q b ++ tab q c)
    dealt_all past = ext_get_or z out whole (dealt.size ∙ sym size) (λ m l. at_place m (omega (arith, dealt.size)))
      where
        whole : List A
        whole = tab (2 * q) a ++ (tab q b ++ tab q c)

        size : length whole ≡ 4 * q
        size =
            omega (
              arith,
              length-append (tab (2 * q) a) (tab q b ++ tab q c),
              length-append (tab q b) (tab q c),
              length_tab (2 * q) a,
              length_tab q b,
              length_tab q c,
            )

        first : (k : ℕ) → k < 2 * q → get_or out k z ≡ get_or whole k z
        first k l =
            dealt.in_first k (omega arith)
            ∙ sym (get_or-append (tab (2 * q) a) (tab q b ++ tab q c) z k (omega (arith, length_tab (2 * q) a)) ∙ get_or_tab (2 * q) a k z l)

        second : (k : ℕ) → k < q → get_or out (2 * q + k) z ≡ get_or whole (2 * q + k) z
        second k l =
            dealt.in_second k (omega arith)
            ∙ sym (get_d_after (tab (2 * q) a) (tab q b ++ tab q c) (2 * q) k z (length_tab (2 * q) a)
            ∙ get_or-append (tab q b) (tab q c) z k (omega (arith, length_tab q b)) ∙ get_or_tab q b k z l)

        third_entry : (k : ℕ) → k < q → get_or out (3 * q + k) z ≡ c k
        third_entry zero l = rw Nat.add-zero dealt.third_begins
        third_entry (suc k) l = dealt.in_third (suc k) l (omega arith)

        third : (k : ℕ) → k < q → get_or out (3 * q + k) z ≡ get_or whole (3 * q + k) z
        third k l =
            let place : 3 * q + k ≡ 2 * q + (q + k) = omega arith in
            third_entry k l
            ∙ sym (ap (λ (m : ℕ). get_or whole m z) place ∙ get_d_after (tab (2 * q) a) (tab q b ++ tab q c) (2 * q) (q + k) z (length_tab (2 * q) a)
            ∙ get_d_after (tab q b) (tab q c) q k z (length_tab q b) ∙ get_or_tab q c k z l)

        at_place : (m : ℕ) → m < 4 * q → get_or out m z ≡ get_or whole m z
        at_place m l =
            elim (dec_lt m (2 * q)) [
              | yes low ↦ first m low
              | no high ↦
                  elim (dec_lt m (3 * q)) [
                    | yes mid ↦ let place : 2 * q + (m - 2 * q) ≡ m = omega arith in rw place at (second (m - 2 * q) (omega arith))
                    | no top ↦ let place : 3 * q + (m - 3 * q) ≡ m = omega arith in rw place at (third (m - 3 * q) (omega arith))
                  ]
            ]

-- what split radix deals out
pub record Splitting {A : Type 0} (O : Ops A) (q : ℕ) (x : List A) (i : ℕ) (out : List A) : Type 0 where
  pub dealt : Dealt O.none q (λ m. at O x (2 * m)) (one_input O q x) (three_input O q x) i out

module _ {A : Type 0} (O : Ops A) (q : ℕ) (x : List A) where
  one_entry : (i : ℕ) → 1 ≤ i → one_input O q x i ≡ O.add (at O x (4 * i - 1)) (at O x (4 * i + 1))
  one_entry zero some = absurd (Nat.lt_irrefl 0 some)
  one_entry (suc i) some =
      let before : 4 * i + 3 ≡ 4 * suc i - 1 = omega arith in
      let after : 4 * i + 5 ≡ 4 * suc i + 1 = omega arith in
      ap₂ (λ (k l : ℕ). O.add (at O x k) (at O x l)) before after

  three_entry : (i m : ℕ) → 1 ≤ m → i + m ≡ q → three_input O q x m ≡ O.sub (at O x (4 * i - 1)) (at O x (4 * i + 1))
  three_entry i zero some e = absurd (Nat.lt_irrefl 0 some)
  three_entry i (suc m) some e =
      let place : q - suc m ≡ i = omega arith in
      ap (λ (k : ℕ). O.sub (at O x (4 * k - 1)) (at O x (4 * k + 1))) place

  pub splitting_first : (out : List A) {s t u v : A} → 1 ≤ q → length out ≡ 4 * q → s ≡ at O x 0 → t ≡ at O x 2 → u ≡ O.double (at O x 1)
      → v ≡ O.double (at O x (4 * q - 1)) → Splitting O q x 1 (set (set (set (set out 0 s) 1 t) (2 * q) u) (3 * q) v)
  splitting_first out some size is-first is-second is-third is-fourth =
      record { dealt = dealt_first out some size is-first is-second is-third is-fourth }

module _ {A : Type 0} {O : Ops A} {q : ℕ} {x : List A} {i : ℕ} {out : List A} (splitting : Splitting O q x i out) where
  pub splitting_more : {s t u v : A} → i < q → s ≡ at O x (4 * i) → t ≡ at O x (4 * i + 2) → u ≡ O.add (at O x (4 * i - 1)) (at O x (4 * i + 1))
      → v ≡ O.sub (at O x (4 * i - 1)) (at O x (4 * i + 1))
      → Splitting O q x (i + 1) (set (set (set (set out (2 * i) s) (2 * i + 1) t) (2 * q + i) u) (4 * q - i) v)
  splitting_more below is-first is-second is-third is-fourth =
      let even : 4 * i ≡ 2 * (2 * i) = omega arith in
      let next : 4 * i + 2 ≡ 2 * (2 * i + 1) = omega arith in
      record {
        dealt = dealt_more splitting.dealt below (is-first ∙ ap (at O x) even) (is-second ∙ ap (at O x) next)
            (is-third ∙ sym (one_entry O q x i splitting.dealt.some))
            (is-fourth ∙ sym (three_entry O q x i (q - i) (omega arith) (omega arith)));
      }

  pub splitting_all : q ≤ i → out ≡ split_three O q x
  unfolding split_three input_evens input_one input_three
  splitting_all past = dealt_all splitting.dealt past
