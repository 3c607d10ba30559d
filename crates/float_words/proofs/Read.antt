-- Words read from the front: as chunks of eight bytes they are the words at their places (words_are), the first n of them too (first_words), which are all where there is room (all_words). How
-- the chunks are read one by one (one_read, all_read). Assumes nothing.
use mathlib.Core.Path.{◌≡◌, refl, sym, ap, ap₂, ◌∙◌}
use mathlib.Core.List.{List, [], ◌∷◌, ◌++◌, map, append-nil}
use Prim.Native.Nat.{ℕ, zero, suc, ◌+◌, ◌*◌, ◌/◌, ◌<◌, ◌≤◌}
use native.Mathlib.Omega.{arith}
use lib.ListN.{length, get_or, take, drop}
use lib.Seq.{get_or-take, get_or-drop}
use borrow.Author.Tests.{lt-ltb}
use mir.Syntax.{w64}
use Rattle.std.specs.Int.{from_le_bytes}
use Rattle.std.proofs.lemmas.List.{append_assoc, take-map, take_all}
use Rattle.std.specs.Simd.{first_chunks}
use Rattle.ring.specs.Finite.{tab}
use Rattle.ring.proofs.Table.{length_tab, tab_ext}
use Rattle.float_words.specs.Words.{eight_bytes, word_at, words_of}

module _ (bytes : List ℕ) where
  taken : (i : ℕ) → i < 8 → get_or (take 8 bytes) i 0 ≡ get_or bytes i 0
  taken i below = get_or-take 8 bytes i 0 below

  first_word : from_le_bytes w64 (take 8 bytes) ≡ eight_bytes bytes 0
  first_word =
      omega (
        arith,
        taken 0 (omega arith),
        taken 1 (omega arith),
        taken 2 (omega arith),
        taken 3 (omega arith),
        taken 4 (omega arith),
        taken 5 (omega arith),
        taken 6 (omega arith),
        taken 7 (omega arith),
      )

  dropped : (i k : ℕ) → k ≡ 8 + i → get_or (drop 8 bytes) i 0 ≡ get_or bytes k 0
  dropped i k is = get_or-drop 8 bytes i 0 ∙ ap (λ (n : ℕ). get_or bytes n 0) (sym is)

  later_word : (i k : ℕ) → k ≡ 8 + i → eight_bytes (drop 8 bytes) i ≡ eight_bytes bytes k
  later_word i k is =
      omega (
        arith,
        dropped i k is,
        dropped (i + 1) (k + 1) (omega arith),
        dropped (i + 2) (k + 2) (omega arith),
        dropped (i + 2 + 1) (k + 2 + 1) (omega arith),
        dropped (i + 4) (k + 4) (omega arith),
        dropped (i + 4 + 1) (k + 4 + 1) (omega arith),
        dropped (i + 4 + 2) (k + 4 + 2) (omega arith),
        dropped (i + 4 + 2 + 1) (k + 4 + 2 + 1) (omega arith),
      )

words_from : (k : ℕ) (bytes : List ℕ) → map (from_le_bytes w64) (first_chunks 8 k bytes) ≡ tab k (λ i. eight_bytes bytes (8 * i))
unfolding tab
words_from zero bytes = refl
words_from (suc k) bytes =
    let rest = words_from k (drop 8 bytes) ∙ tab_ext k (λ i below. later_word bytes (8 * i) (8 * suc i) (omega arith)) in
    let first = first_word bytes in
    cc (first, rest)

pub words_are : (bytes : List ℕ) → map (from_le_bytes w64) (first_chunks 8 (length bytes / 8) bytes) ≡ words_of bytes
unfolding words_of word_at
words_are bytes = words_from (length bytes / 8) bytes ∙ tab_ext (length bytes / 8) (λ k below. rw (lt-ltb _ _ below))

pub first_words : (n : ℕ) (bytes : List ℕ) → map (from_le_bytes w64) (take n (first_chunks 8 (length bytes / 8) bytes)) ≡ take n (words_of bytes)
first_words n bytes = sym (take-map (from_le_bytes w64) n (first_chunks 8 (length bytes / 8) bytes)) ∙ ap (take n) (words_are bytes)

pub all_words : (n : ℕ) (bytes : List ℕ) → length bytes ≤ 8 * n → take n (words_of bytes) ≡ words_of bytes
unfolding words_of
all_words n bytes room = take_all n _ (omega (arith, length_tab (length bytes / 8) (word_at bytes)))

-- of n chunks that are still to be read, the first was read
pub one_read : (n m : ℕ) (chunk before after all : List ℕ) (chunks rest : List (List ℕ)) → chunks ≡ chunk ∷ rest → m + 1 ≡ n → after ≡ before ++ from_le_bytes w64 chunk ∷ [] → before ++ map (from_le_bytes w64) (take n chunks) ≡ all → after ++ map (from_le_bytes w64) (take m rest) ≡ all
one_read n m chunk before after all chunks rest first less stored is =
    let one : n ≡ suc m = omega (arith, less) in
    ap (λ (l : List ℕ). l ++ map (from_le_bytes w64) (take m rest)) stored
    ∙ append_assoc before (from_le_bytes w64 chunk ∷ []) (map (from_le_bytes w64) (take m rest))
    ∙ ap₂ (λ (k : ℕ) (l : List (List ℕ)). before ++ map (from_le_bytes w64) (take k l)) (sym one) (sym first)
    ∙ is

-- none of n chunks is still to be read
pub all_read : (n : ℕ) (items all : List ℕ) (chunks : List (List ℕ)) → (0 < n → length chunks ≡ 0) → items ++ map (from_le_bytes w64) (take n chunks) ≡ all → items ≡ all
all_read zero items all chunks none before = sym (append-nil items) ∙ before
all_read (suc n) items all [] none before = sym (append-nil items) ∙ before
all_read (suc n) items all (chunk ∷ chunks) none before = absurd (omega (arith, none (omega arith)))
