-- Lists as tables of a function of the index: the length, the entries, when a list is a table, and tables put together.
-- Over any type of entries. Assumes nothing.
use mathlib.Core.Path.{◌≡◌, refl, ap, sym, ◌∙◌}
use mathlib.Core.List.{List, ◌∷◌, ◌++◌, map}
use Prim.Native.Nat.{ℕ, zero, suc, ◌+◌, ◌<◌}
use native.Mathlib.Nat.{le_of_suc-le-suc, not-suc-le-zero, zero-add, suc-add}
use native.Mathlib.Omega.{arith}
use lib.ListN.{length, get_or}
use lib.Seq.{ext_get_or}
use Rattle.ring.specs.Finite.{tab}

module _ {A : Type 0} where
  pub length_tab : (n : ℕ) (f : ℕ → A) → length (tab n f) ≡ n
  unfolding tab
  length_tab zero f = refl
  length_tab (suc n) f = ap suc (length_tab n (λ k. f (suc k)))

  pub get_or_tab : (n : ℕ) (f : ℕ → A) (k : ℕ) (d : A) → k < n → get_or (tab n f) k d ≡ f k
  unfolding tab
  get_or_tab zero f k d h = absurd (not-suc-le-zero h)
  get_or_tab (suc n) f zero d h = refl
  get_or_tab (suc n) f (suc k) d h = get_or_tab n (λ i. f (suc i)) k d (le_of_suc-le-suc h)

  -- a list with the length and the entries of a table is that table
  pub is_tab : {f : ℕ → A} (d : A) (xs : List A) (n : ℕ) → length xs ≡ n → ((k : ℕ) → k < n → get_or xs k d ≡ f k) → xs ≡ tab n f
  is_tab {f} d xs n whole rule =
      ext_get_or d xs (tab n f) (whole ∙ sym (length_tab n f))
      (λ k h. let below : k < n = omega arith in rule k below ∙ sym (get_or_tab n f k d below))

  pub tab_ext : {f h : ℕ → A} (n : ℕ) → ((k : ℕ) → k < n → f k ≡ h k) → tab n f ≡ tab n h
  unfolding tab
  tab_ext zero same = refl
  tab_ext {f} {h} (suc n) same =
      let first : f zero ≡ h zero = same zero (omega arith) in
      let rest : tab n (λ k. f (suc k)) ≡ tab n (λ k. h (suc k)) = tab_ext {f = λ k. f (suc k)} {h = λ k. h (suc k)} n (λ k below. same (suc k) (omega arith)) in
      cc

  -- one table after another
  pub tab_append : (m n : ℕ) (f : ℕ → A) → tab (m + n) f ≡ tab m f ++ tab n (λ k. f (m + k))
  unfolding tab
  tab_append zero n f = ap (λ (k : ℕ). tab k f) (zero-add n) ∙ tab_ext n (λ k below. ap f (sym (zero-add k)))
  tab_append (suc m) n f =
      ap (λ (k : ℕ). tab k f) (suc-add m n)
      ∙ ap (λ (xs : List A). f zero ∷ xs)
      (tab_append m n (λ k. f (suc k)) ∙ ap (λ (xs : List A). tab m (λ k. f (suc k)) ++ xs) (tab_ext n (λ k below. ap f (sym (suc-add m k)))))

-- a function of each entry
pub map_tab : {A B : Type 0} (f : A → B) (n : ℕ) (h : ℕ → A) → map f (tab n h) ≡ tab n (λ k. f (h k))
unfolding tab
map_tab f zero h = refl
map_tab {B = B} f (suc n) h = ap (λ (xs : List B). f (h zero) ∷ xs) (map_tab f n (λ k. h (suc k)))
