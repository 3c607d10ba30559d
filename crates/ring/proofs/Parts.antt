-- A part of a list: what reading it gives (part_entry, part_middle), and what replacing it by what a function makes of it leaves of the whole (put_back, over_middle), which
-- is as long as before (lent_length). A list of 4q entries in three parts, of 2q, q and q, which follow each other: each part (part_first, part_second, part_third), and the
-- whole after it was lent and came back as what a function makes of it (lent_first, lent_second, lent_third). Over any type of entry. Assumes nothing.
use mathlib.Core.Path.{◌≡◌, refl, sym, ◌∙◌, ap}
use mathlib.Core.List.{List, [], ◌++◌, append_assoc, append-nil}
use Prim.Native.Nat.{ℕ, ◌+◌, ◌*◌, ◌-◌, ◌<◌}
use native.Mathlib.Omega.{arith}
use lib.ListN.{length, get_or, take, drop, length-append, length-take, length-drop}
use lib.Seq.{take_at, drop_at, get_or-take, get_or-drop}
use Rattle.ring.specs.Part.{part, over}

-- an entry of the part from a up to b, which stands at k of the whole
pub part_entry : {A : Type 0} (z : A) (l : List A) (a b i k : ℕ) → i < b - a → k ≡ a + i → get_or l k z ≡ get_or (part a b l) i z
part_entry z l a b i k below place =
    ap (λ (n : ℕ). get_or l n z) place ∙ sym (get_or-take (b - a) (drop a l) i z below ∙ get_or-drop a l i z)

-- s after its entries from a up to b were lent and came back as `last`
abbrev pub lent : {A : Type 0} → ℕ → ℕ → List A → List A → List A
lent a b s last = take a s ++ (last ++ drop (b - a) (drop a s))

pub put_back : {A : Type 0} (f : List A → List A) (a b : ℕ) (s : List A) {last : List A} → last ≡ f (part a b s) → lent a b s last ≡ over f a b s
put_back f a b s is = ap (lent a b s) is

pub lent_length : {A : Type 0} (a b : ℕ) (s last : List A) {out : List A} → length last ≡ length (part a b s) → out ≡ lent a b s last
    → length out ≡ length s
lent_length a b s last kept is =
    ap length is ∙ simp (length-append, length-drop, length-take) (omega (arith, simp (length-take, length-drop) at kept))

-- m, which begins at a and ends at b
module _ {A : Type 0} (p m r : List A) (a b : ℕ) (begins : length p ≡ a) (ends : a + length m ≡ b) where
  size : length m ≡ b - a
  size = omega arith

  pub part_middle : part a b (p ++ (m ++ r)) ≡ m
  part_middle = ap (take (b - a)) (drop_at p (m ++ r) a begins) ∙ take_at m r (b - a) size

  pub over_middle : (f : List A → List A) → over f a b (p ++ (m ++ r)) ≡ p ++ (f m ++ r)
  over_middle f =
      let before : take a (p ++ (m ++ r)) ≡ p = take_at p (m ++ r) a begins in
      let at : part a b (p ++ (m ++ r)) ≡ m = part_middle in
      let after : drop (b - a) (drop a (p ++ (m ++ r))) ≡ r = ap (drop (b - a)) (drop_at p (m ++ r) a begins) ∙ drop_at m r (b - a) size in
      cc

pub record Parts {A : Type 0} (q : ℕ) (h c s l : List A) : Type 0 where
  pub half : length h ≡ 2 * q
  pub third_quarter : length c ≡ q
  pub fourth_quarter : length s ≡ q
  pub is : l ≡ h ++ (c ++ s)

module _ {A : Type 0} {q : ℕ} {h c s l : List A} (parts : Parts q h c s l) where
  pub parts_length : length l ≡ 4 * q
  parts_length = ap length parts.is ∙ simp length-append (omega (arith, parts.half, parts.third_quarter, parts.fourth_quarter))

  -- the last part, with nothing after it
  whole : l ≡ (h ++ c) ++ (s ++ [])
  whole = parts.is ∙ sym (append_assoc h c s) ∙ ap (λ (t : List A). (h ++ c) ++ t) (sym (append-nil s))

  before_last : length (h ++ c) ≡ 3 * q
  before_last = length-append h c ∙ omega (arith, parts.half, parts.third_quarter)

  pub part_first : part 0 (2 * q) l ≡ h
  part_first = ap (part 0 (2 * q)) parts.is ∙ part_middle [] h (c ++ s) 0 (2 * q) refl (omega (arith, parts.half))

  pub part_second : part (2 * q) (3 * q) l ≡ c
  part_second =
      ap (part (2 * q) (3 * q)) parts.is ∙ part_middle h c s (2 * q) (3 * q) parts.half (omega (arith, parts.third_quarter))

  pub part_third : part (3 * q) (4 * q) l ≡ s
  part_third =
      ap (part (3 * q) (4 * q)) whole ∙ part_middle (h ++ c) s [] (3 * q) (4 * q) before_last (omega (arith, parts.fourth_quarter))

  module _ (f : List A → List A) {last out : List A} where
    pub lent_first : length (f h) ≡ length h → last ≡ f (part 0 (2 * q) l) → out ≡ lent 0 (2 * q) l last → Parts q (f h) c s out
    lent_first same made is = record {
      half = same ∙ parts.half;
      third_quarter = parts.third_quarter;
      fourth_quarter = parts.fourth_quarter;
      is = is ∙ put_back f 0 (2 * q) l made ∙ ap (over f 0 (2 * q)) parts.is
          ∙ over_middle [] h (c ++ s) 0 (2 * q) refl (omega (arith, parts.half)) f;
    }

    pub lent_second : length (f c) ≡ length c → last ≡ f (part (2 * q) (3 * q) l) → out ≡ lent (2 * q) (3 * q) l last → Parts q h (f c) s out
    lent_second same made is = record {
      half = parts.half;
      third_quarter = same ∙ parts.third_quarter;
      fourth_quarter = parts.fourth_quarter;
      is = is ∙ put_back f (2 * q) (3 * q) l made ∙ ap (over f (2 * q) (3 * q)) parts.is
          ∙ over_middle h c s (2 * q) (3 * q) parts.half (omega (arith, parts.third_quarter)) f;
    }

    -- the last part goes up to the length n
    pub lent_third : {n : ℕ} → n ≡ 4 * q → length (f s) ≡ length s → last ≡ f (part (3 * q) n l) → out ≡ lent (3 * q) n l last → Parts q h c (f s) out
    lent_third {n} all same made is = record {
      half = parts.half;
      third_quarter = parts.third_quarter;
      fourth_quarter = same ∙ parts.fourth_quarter;
      is = is ∙ put_back f (3 * q) n l made ∙ ap (over f (3 * q) n) whole
          ∙ over_middle (h ++ c) s [] (3 * q) n before_last (omega (arith, parts.fourth_quarter, all)) f
          ∙ append_assoc h c (f s ++ []) ∙ ap (λ (t : List A). h ++ (c ++ t)) (append-nil (f s));
    }
