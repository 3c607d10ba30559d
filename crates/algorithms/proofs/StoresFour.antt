-- The two loops around the inner transforms of type 4. The first deals 2m entries out to two lists of m, which begin at u and at v: its turn i stores at u + i and at
-- v + i − 1, and the turn before the loop at u and at the end of the other (paired_first, paired_more). With the values of type 4 the two lists are the inner inputs
-- (pairing_first, pairing_more, dct4_paired, dst4_paired). The second stores at i and at 2m − 1 − i (mirrored_none, mirrored_more, mirrored_all), and with the values of
-- type 4 it is the merge (merging_none, merging_more, dct4_merging, dst4_merging). What is stored is a variable, with an equation that says what it is.
-- Over any type of entry, with z past the end. Assumes nothing.
use mathlib.Core.Path.{◌≡◌, refl, sym, ◌∙◌, ap, ap₂}
use mathlib.Core.List.{List, ◌++◌}
use Prim.Native.Nat.{ℕ, zero, suc, ◌+◌, ◌*◌, ◌-◌, ◌<◌, ◌≤◌}
use native.Mathlib.Nat as Nat
use native.Mathlib.Decide.{dec_lt}
use native.Mathlib.Omega.{arith}
use borrow.Author.Count.{below_none, below_more}
use lib.ListN.{length, get_or, set, length-set, length-append, get_or-append}
use lib.Seq.{ext_get_or, get_or-set_same, get_or-set_other}
use Rattle.ring.specs.Finite.{tab}
use Rattle.ring.proofs.Table.{length_tab, get_or_tab}
use Rattle.algorithms.specs.Ops.{Ops, Twiddles, at}
use Rattle.algorithms.specs.Lists.{back}
use Rattle.algorithms.specs.Split.{along, across, twiddle_cos, twiddle_sin}
use Rattle.algorithms.specs.Four.{first_doubled, last_doubled, left_dct4, right_dct4, left_dst4, right_dst4, output, merge_dct4, merge_dst4}
use Rattle.algorithms.proofs.Four.{last_doubled_is, before_last}
use Rattle.algorithms.proofs.Lists.{get_d_after, there_back_is}

-- two stores one after the other, at two places
module _ {A : Type 0} (z : A) (out : List A) (a b : ℕ) (s t : A) where
  abbrev two_set : List A
  two_set = set (set out a s) b t

  length_two : length two_set ≡ length out
  length_two = simp length-set

  two_other : (k : ℕ) → (k ≡ a → ⊥) → (k ≡ b → ⊥) → get_or two_set k z ≡ get_or out k z
  two_other k na nb = get_or-set_other (set out a s) b k t z nb ∙ get_or-set_other out a k s z na

  two_first : (k : ℕ) → k ≡ a → a < length out → (a ≡ b → ⊥) → get_or two_set k z ≡ s
  two_first k e l nb =
      ap (λ (n : ℕ). get_or two_set n z) e ∙ get_or-set_other (set out a s) b a t z nb ∙ get_or-set_same out a s z l

  two_second : (k : ℕ) → k ≡ b → b < length out → get_or two_set k z ≡ t
  two_second k e l = ap (λ (n : ℕ). get_or two_set n z) e ∙ get_or-set_same (set out a s) b t z (rw length-set l)

-- two lists of m entries, one after the other, by their entries
pub halves_are : {A : Type 0} (z : A) (m : ℕ) (f g : ℕ → A) (out : List A) → length out ≡ 2 * m → ((k : ℕ) → k < m → get_or out k z ≡ f k)
    → ((k : ℕ) → k < m → get_or out (m + k) z ≡ g k) → out ≡ tab m f ++ tab m g
halves_are {A = A} z m f g out size first second =
    ext_get_or z out whole (size ∙ sym whole_size)
    (λ k l.
    elim (dec_lt k m) [
      | yes low ↦ first k low ∙ sym (get_or-append (tab m f) (tab m g) z k (omega (arith, length_tab m f)) ∙ get_or_tab m f k z low)
      | no high ↦
          let place : m + (k - m) ≡ k = omega arith in
          let below : k - m < m = omega arith in
          rw place at (second (k - m) below ∙ sym (get_d_after (tab m f) (tab m g) m (k - m) z (length_tab m f) ∙ get_or_tab m g (k - m) z below))
    ])
  where
    whole : List A
    whole = tab m f ++ tab m g

    whole_size : length whole ≡ 2 * m
    whole_size = omega (arith, length-append (tab m f) (tab m g), length_tab m f, length_tab m g)

-- no place of one list is one of the other
pub record Apart (m u v : ℕ) : Type 0 where
  pub one_within : u ≤ m
  pub other_within : v ≤ m
  pub apart : (j k : ℕ) → j < m → k < m → u + j ≡ v + k → ⊥

pub first_then : (m : ℕ) → Apart m 0 m
first_then m = record { one_within = omega arith; other_within = omega arith; apart = λ j k jl kl e. omega arith }

pub last_then : (m : ℕ) → Apart m m 0
last_then m = record { one_within = omega arith; other_within = omega arith; apart = λ j k jl kl e. omega arith }

-- one list holds its first i entries; the other those before i − 1, and its last
pub record Paired {A : Type 0} (z : A) (m : ℕ) (f g : ℕ → A) (u v i : ℕ) (out : List A) : Type 0 where
  pub some : 1 ≤ i
  pub within : i ≤ m
  pub size : length out ≡ 2 * m
  pub in_one : (k : ℕ) → k < i → get_or out (u + k) z ≡ f k
  pub in_other : (k : ℕ) → suc k < i → get_or out (v + k) z ≡ g k
  pub other_ends : (k : ℕ) → suc k ≡ m → get_or out (v + k) z ≡ g k

module _ {A : Type 0} {z : A} {m : ℕ} {f g : ℕ → A} {u v : ℕ} (places : Apart m u v) where
  pub paired_first : (out : List A) {a b : ℕ} {s t : A} → 1 ≤ m → length out ≡ 2 * m → a ≡ u → suc b ≡ v + m → s ≡ f 0 → t ≡ g (m - 1)
      → Paired z m f g u v 1 (set (set out a s) b t)
  paired_first out {a} {b} {s} {t} some size is-a is_b is-first is_last = record {
    some = omega arith;
    within = some;
    size = length_two z out a b s t ∙ size;
    in_one = below_more (λ k. get_or (set (set out a s) b t) (u + k) z ≡ f k) 0 (below_none (λ k. get_or (set (set out a s) b t) (u + k) z ≡ f k))
        (two_first z out a b s t (u + 0) (omega arith) (omega (arith, places.one_within))
        (λ e. places.apart 0 (m - 1) (omega arith) (omega arith) (omega arith)) ∙ is-first);
    in_other = λ k l. absurd (Nat.lt_irrefl 0 (omega arith));
    other_ends = λ k last.
        let end : m - 1 ≡ k = omega arith in
        two_second z out a b s t (v + k) (omega arith) (omega (arith, places.other_within)) ∙ is_last ∙ ap g end;
  }

  module _ {i : ℕ} {out : List A} (paired : Paired z m f g u v i out) where
    pub paired_more : {a b : ℕ} {s t : A} → i < m → a ≡ u + i → suc b ≡ v + i → s ≡ f i → t ≡ g (i - 1)
        → Paired z m f g u v (i + 1) (set (set out a s) b t)
    paired_more {a} {b} {s} {t} below is-a is_b is_one is-other =
        let some : 1 ≤ i = paired.some in
        record {
          some = omega arith;
          within = omega arith;
          size = length_two z out a b s t ∙ paired.size;
          in_one = below_more (λ k. get_or (set (set out a s) b t) (u + k) z ≡ f k) i
              (λ k l.
              two_other z out a b s t (u + k) (λ e. omega arith) (λ e. places.apart k (i - 1) (omega arith) (omega arith) (omega arith)) ∙ paired.in_one k l)
              (two_first z out a b s t (u + i) (sym is-a) (omega (arith, places.one_within, paired.size))
              (λ e. places.apart i (i - 1) below (omega arith) (omega arith)) ∙ is_one);
          in_other = λ k l.
              elim (dec_lt (suc k) i) [
                | yes passed ↦
                    two_other z out a b s t (v + k) (λ e. places.apart i k below (omega arith) (omega arith)) (λ e. omega arith) ∙ paired.in_other k passed
                | no new ↦
                    let here : i - 1 ≡ k = omega arith in
                    two_second z out a b s t (v + k) (omega arith) (omega (arith, places.other_within, paired.size)) ∙ is-other ∙ ap g here
              ];
          other_ends = λ k last.
              two_other z out a b s t (v + k) (λ e. places.apart i k below (omega arith) (omega arith)) (λ e. omega arith) ∙ paired.other_ends k last;
        }

    in_all_other : m ≤ i → (k : ℕ) → k < m → get_or out (v + k) z ≡ g k
    in_all_other past k l =
        elim (dec_lt (suc k) i) [
          | yes passed ↦ paired.in_other k passed
          | no end ↦ paired.other_ends k (omega (arith, paired.within))
        ]

-- what type 4 deals out
pub record Pairing {A : Type 0} (O : Ops A) (m : ℕ) (x : List A) (one other : A → A → A) (u v i : ℕ) (out : List A) : Type 0 where
  pub paired : Paired O.none m (first_doubled O m x one) (last_doubled O m x other) u v i out

module _ {A : Type 0} (O : Ops A) (m : ℕ) (x : List A) (op : A → A → A) where
  first_entry : (i : ℕ) → 1 ≤ i → first_doubled O m x op i ≡ op (at O x (2 * i - 1)) (at O x (2 * i))
  first_entry zero some = absurd (Nat.lt_irrefl 0 some)
  first_entry (suc i) some =
      let before : 2 * i + 1 ≡ 2 * suc i - 1 = omega arith in
      let after : 2 * i + 2 ≡ 2 * suc i = omega arith in
      ap₂ (λ (k l : ℕ). op (at O x k) (at O x l)) before after

  other_entry : (i : ℕ) → 1 ≤ i → i < m → last_doubled O m x op (i - 1) ≡ op (at O x (2 * i - 1)) (at O x (2 * i))
  other_entry i some below =
      let before : 2 * (i - 1) + 1 ≡ 2 * i - 1 = omega arith in
      let after : 2 * (i - 1) + 2 ≡ 2 * i = omega arith in
      before_last O m x op (i - 1) (omega arith) ∙ ap₂ (λ (k l : ℕ). op (at O x k) (at O x l)) before after

module _ {A : Type 0} (O : Ops A) (m : ℕ) (x : List A) (one other : A → A → A) {u v : ℕ} (places : Apart m u v) where
  pub pairing_first : (out : List A) {a b : ℕ} {s t : A} → 1 ≤ m → length out ≡ 2 * m → a ≡ u → suc b ≡ v + m → s ≡ O.double (at O x 0)
      → t ≡ O.double (at O x (2 * m - 1)) → Pairing O m x one other u v 1 (set (set out a s) b t)
  pairing_first out some size is-a is_b is-first is_last =
      record { paired = paired_first places out some size is-a is_b is-first (is_last ∙ sym (last_doubled_is O m x other (m - 1) (omega arith))) }

  module _ {i : ℕ} {out : List A} (pairing : Pairing O m x one other u v i out) where
    pub pairing_more : {a b : ℕ} {s t : A} → i < m → a ≡ u + i → suc b ≡ v + i → s ≡ one (at O x (2 * i - 1)) (at O x (2 * i))
        → t ≡ other (at O x (2 * i - 1)) (at O x (2 * i)) → Pairing O m x one other u v (i + 1) (set (set out a s) b t)
    pairing_more below is-a is_b is_one is-other =
        let some = pairing.paired.some in
        record {
          paired = paired_more places pairing.paired below is-a is_b (is_one ∙ sym (first_entry O m x one i some))
              (is-other ∙ sym (other_entry O m x other i some below));
        }

module _ {A : Type 0} {O : Ops A} {m : ℕ} {x : List A} {i : ℕ} {out : List A} where
  pub dct4_paired : Pairing O m x O.add O.sub 0 m i out → m ≤ i → out ≡ left_dct4 O m x ++ right_dct4 O m x
  unfolding left_dct4 right_dct4
  dct4_paired pairing past =
      halves_are O.none m _ _ out pairing.paired.size
      (λ k l. let place : k ≡ 0 + k = omega arith in rw (← place) at (pairing.paired.in_one k (omega arith)))
      (in_all_other (first_then m) pairing.paired past)

  pub dst4_paired : Pairing O m x (λ a b. O.sub b a) O.add m 0 i out → m ≤ i → out ≡ left_dst4 O m x ++ right_dst4 O m x
  unfolding left_dst4 right_dst4
  dst4_paired pairing past =
      halves_are O.none m _ _ out pairing.paired.size
      (λ k l. let place : k ≡ 0 + k = omega arith in rw (← place) at (in_all_other (last_then m) pairing.paired past k l))
      (λ k l. pairing.paired.in_one k (omega arith))

-- the first i entries and the last i hold their values
pub record Mirrored {A : Type 0} (z : A) (m : ℕ) (f h : ℕ → A) (i : ℕ) (out : List A) : Type 0 where
  pub within : i ≤ m
  pub size : length out ≡ 2 * m
  pub in_first : (k : ℕ) → k < i → get_or out k z ≡ f k
  pub in_second : (k : ℕ) → k < i → get_or out (2 * m - 1 - k) z ≡ h k

pub mirrored_none : {A : Type 0} (z : A) (m : ℕ) (f h : ℕ → A) {out : List A} → length out ≡ 2 * m → Mirrored z m f h 0 out
mirrored_none z m f h {out} size = record {
  within = omega arith;
  size = size;
  in_first = below_none (λ k. get_or out k z ≡ f k);
  in_second = below_none (λ k. get_or out (2 * m - 1 - k) z ≡ h k);
}

module _ {A : Type 0} {z : A} {m : ℕ} {f h : ℕ → A} {i : ℕ} {out : List A} (mirrored : Mirrored z m f h i out) where
  pub mirrored_more : {s t : A} → i < m → s ≡ f i → t ≡ h i → Mirrored z m f h (i + 1) (set (set out i s) (2 * m - 1 - i) t)
  mirrored_more {s} {t} below is-first is-second = record {
    within = omega arith;
    size = length_two z out i (2 * m - 1 - i) s t ∙ mirrored.size;
    in_first = below_more (λ k. get_or (set (set out i s) (2 * m - 1 - i) t) k z ≡ f k) i
        (λ k l. two_other z out i (2 * m - 1 - i) s t k (λ e. omega arith) (λ e. omega arith) ∙ mirrored.in_first k l)
        (two_first z out i (2 * m - 1 - i) s t i refl (omega (arith, mirrored.size)) (λ e. omega arith) ∙ is-first);
    in_second = below_more (λ k. get_or (set (set out i s) (2 * m - 1 - i) t) (2 * m - 1 - k) z ≡ h k) i
        (λ k l. two_other z out i (2 * m - 1 - i) s t (2 * m - 1 - k) (λ e. omega arith) (λ e. omega arith) ∙ mirrored.in_second k l)
        (two_second z out i (2 * m - 1 - i) s t (2 * m - 1 - i) refl (omega (arith, mirrored.size)) ∙ is-second);
  }

  pub mirrored_all : m ≤ i → out ≡ tab m f ++ back m h
  mirrored_all past =
      sym (there_back_is m f h z out mirrored.size (λ k l. sym (mirrored.in_first k (omega arith)))
      (λ j k l e.
      let place : 2 * m - 1 - k ≡ j = omega arith in
      sym (rw place at (mirrored.in_second k (omega arith)))))

-- what the merge of type 4 stores: at k the part along the twiddle, and at 2m − 1 − k what `rest` makes of left, right, cosine and sine
pub record Merging {A : Type 0} (O : Ops A) (W : Twiddles A) (rest : A → A → A → A → A) (m : ℕ) (left right : List A) (i : ℕ) (out : List A) : Type 0 where
  pub mirrored : Mirrored O.none m (output O W m left right) (λ k. rest (at O left k) (at O right k) (twiddle_cos O W m k) (twiddle_sin O W m k)) i out

module _ {A : Type 0} (O : Ops A) where
  -- DCT-IV: left · sin − right · cos
  abbrev pub rest_dct4 : A → A → A → A → A
  rest_dct4 left right cos sin = across O right left sin cos

  -- DST-IV: right · cos − left · sin
  abbrev pub rest_dst4 : A → A → A → A → A
  rest_dst4 left right cos sin = across O left right cos sin

module _ {A : Type 0} (O : Ops A) (W : Twiddles A) (rest : A → A → A → A → A) (m : ℕ) (left right : List A) where
  pub merging_none : {out : List A} → length out ≡ 2 * m → Merging O W rest m left right 0 out
  merging_none size = record { mirrored = mirrored_none O.none m _ _ size }

  pub merging_more : {i : ℕ} {out : List A} → Merging O W rest m left right i out → {l r cos sin s t : A} → i < m → l ≡ at O left i → r ≡ at O right i
      → cos ≡ twiddle_cos O W m i → sin ≡ twiddle_sin O W m i → s ≡ along O l r cos sin → t ≡ rest l r cos sin
      → Merging O W rest m left right (i + 1) (set (set out i s) (2 * m - 1 - i) t)
  merging_more merging below is-left is_right is-cos is-sin is-first is-second =
      record { mirrored = mirrored_more merging.mirrored below (cc) (cc) }

module _ {A : Type 0} {O : Ops A} {W : Twiddles A} {m : ℕ} {left right : List A} {i : ℕ} {out : List A} where
  pub dct4_merging : Merging O W (rest_dct4 O) m left right i out → m ≤ i → out ≡ merge_dct4 O W m left right
  unfolding merge_dct4
  dct4_merging merging past = mirrored_all merging.mirrored past

  pub dst4_merging : Merging O W (rest_dst4 O) m left right i out → m ≤ i → out ≡ merge_dst4 O W m left right
  unfolding merge_dst4
  dst4_merging merging past = mirrored_all merging.mirrored past
