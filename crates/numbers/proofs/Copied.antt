-- What a loop that copies one list over the front of another leaves after n turns: `copying n`. A turn's store takes n to n + 1 (copy_more), and all turns leave `copied`
-- (copying_is), which over as many entries is the list that was copied (copied_whole). Over any type of entry. Assumes nothing.
use mathlib.Core.List.{List, [], ◌∷◌, ◌++◌, append-nil}
use mathlib.Core.Path.{◌≡◌, refl, ap, ◌∙◌}
use Prim.Native.Nat.{ℕ, zero, suc, ◌+◌, ◌<◌}
use native.Mathlib.Nat.{not-suc-le-zero, le_of_suc-le-suc}
use native.Mathlib.Numerals.{add-one}
use lib.ListN.{length, get_or, take, drop, set}
use lib.Seq.{take-length, drop-length}
use Rattle.ring.specs.Part.{copied}

module _ {A : Type 0} where
  -- the first n entries of `from`, then those of `to` beyond them
  abbrev pub copying : ℕ → List A → List A → List A
  copying n from to = take n from ++ drop n to

  copy_next : (z : A) (n : ℕ) (from to : List A) → n < length from → n < length to
      → set (copying n from to) n (get_or from n z) ≡ copying (suc n) from to
  copy_next z n [] to l m = absurd (not-suc-le-zero l)
  copy_next z n (x ∷ from) [] l m = absurd (not-suc-le-zero m)
  copy_next z zero (x ∷ from) (y ∷ to) l m = refl
  copy_next z (suc n) (x ∷ from) (y ∷ to) l m =
      ap (λ (t : List A). x ∷ t) (copy_next z n from to (le_of_suc-le-suc l) (le_of_suc-le-suc m))

  pub copy_more : (n : ℕ) (from to₀ to : List A) (v : A) → to ≡ copying n from to₀ → n < length from → n < length to₀ → v ≡ get_or from n v
      → set to n v ≡ copying (n + 1) from to₀
  copy_more n from to₀ to v e l m is = ap (set to n) is ∙ rw (e, add-one) (copy_next v n from to₀ l m)

  pub copying_is : (from to : List A) → copying (length from) from to ≡ copied from to
  copying_is from to = rw take-length

  -- a copy over as many entries leaves nothing of them
  pub copied_whole : (from to : List A) → length from ≡ length to → copied from to ≡ from
  copied_whole from to same = ap (λ (n : ℕ). from ++ drop n to) same ∙ ap (λ (t : List A). from ++ t) (drop-length to) ∙ append-nil from
