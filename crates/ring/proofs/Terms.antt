-- Sums by their terms, over any addition: none, one more, two sums that agree at each place, and a sum that goes on from another. Rings, whole
-- numbers and floats share these. Assumes nothing.
use mathlib.Core.Path.{◌≡◌, refl, ◌∙◌, ap, ap₂}
use Prim.Native.Nat.{ℕ, zero, suc, ◌+◌, ◌<◌}
use native.Mathlib.Nat as Nat
use native.Mathlib.Numerals.{add-one}
use native.Mathlib.Omega.{arith}
use Rattle.ring.specs.Finite.{sum_of}

module _ {A : Type 0} (add : A → A → A) (nought : A) where
  pub terms_none : (f : ℕ → A) → sum_of add nought 0 f ≡ nought
  unfolding sum_of
  terms_none f = refl

  pub terms_suc : (n : ℕ) (f : ℕ → A) → sum_of add nought (suc n) f ≡ add (sum_of add nought n f) (f n)
  unfolding sum_of
  terms_suc n f = refl

  -- the same for a loop that counts by one
  pub terms_more : (n : ℕ) (f : ℕ → A) → sum_of add nought (n + 1) f ≡ add (sum_of add nought n f) (f n)
  unfolding sum_of
  terms_more n f = ap (λ (k : ℕ). sum_of add nought k f) (add-one n)

  pub terms_ext : (n : ℕ) {f h : ℕ → A} → ((i : ℕ) → i < n → f i ≡ h i) → sum_of add nought n f ≡ sum_of add nought n h
  unfolding sum_of
  terms_ext zero same = refl
  terms_ext (suc n) same = ap₂ add (terms_ext n (λ i below. same i (omega arith))) (same n (omega arith))

  -- the same where the start and the number of terms are known by equations
  pub terms_same : {start : A} {m n : ℕ} {f h : ℕ → A} → start ≡ nought → m ≡ n → ((i : ℕ) → i < n → f i ≡ h i) → sum_of add start m f ≡ sum_of add nought n h
  terms_same {n = n} {f} begins size same = ap₂ (λ (z : A) (k : ℕ). sum_of add z k f) begins size ∙ terms_ext n same

  -- the first n terms, and on from there
  pub terms_append : (n m : ℕ) (f : ℕ → A) → sum_of add nought (n + m) f ≡ sum_of add (sum_of add nought n f) m (λ i. f (n + i))
  unfolding sum_of
  terms_append n zero f = ap (λ (k : ℕ). sum_of add nought k f) (Nat.add-zero n)
  terms_append n (suc m) f = ap (λ (k : ℕ). sum_of add nought k f) (Nat.add-suc n m) ∙ ap (λ (a : A). add a (f (n + m))) (terms_append n m f)
