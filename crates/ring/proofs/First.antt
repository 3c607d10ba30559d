-- Laws of `first_place`: the entries before it fail the test (first_place_fails), the one there passes it (first_place_passes), and no other place is so (first_place_only).
-- Over any type of entry and any test. Assumes nothing.
use mathlib.Core.Bool.{Bool, true, false, true≢false}
use mathlib.Core.List.{List, [], ◌∷◌}
use mathlib.Core.Logic.{◌⊎◌, inl, inr, ⊎_elim}
use mathlib.Core.Path.{◌≡◌, refl, sym, ◌∙◌}
use Prim.Native.Nat.{ℕ, zero, suc, ◌≤◌, ◌<◌}
use native.Mathlib.Nat as Nat
use native.Mathlib.Omega.{arith}
use lib.ListN.{length, get_or}
use Rattle.ring.specs.Finite.{place_by, first_place}

module _ {A : Type 0} (test : A → Bool) where
  -- the first entry a passes and its place is the one, or it does not, and the place is one beyond that in the rest
  abbrev Found : A → ℕ → ℕ → Type 0
  Found a place rest = ((test a ≡ true) × (place ≡ 0)) ⊎ ((test a ≡ false) × (place ≡ suc rest))

  found_at : (a : A) (rest : List A) → Found a (first_place test (a ∷ rest)) (first_place test rest)
  unfolding first_place
  found_at a rest = by (test a) refl
    where
      by : (b : Bool) → test a ≡ b → Found a (place_by b (first_place test rest)) (first_place test rest)
      by true e = inl (e, refl)
      by false e = inr (e, refl)

  pub first_place_length : (x : List A) → first_place test x ≤ length x
  unfolding first_place
  first_place_length [] = omega arith
  first_place_length (a ∷ rest) = ⊎_elim (λ here. omega arith) (λ next. omega (arith, first_place_length rest)) (found_at a rest)

  pub first_place_fails : (z : A) (x : List A) (k : ℕ) → k < first_place test x → test (get_or x k z) ≡ false
  unfolding first_place
  first_place_fails z [] k l = absurd (Nat.not-suc-le-zero l)
  first_place_fails z (a ∷ rest) zero l = ⊎_elim (λ here. absurd (omega arith)) (λ next. next.0) (found_at a rest)
  first_place_fails z (a ∷ rest) (suc k) l = ⊎_elim (λ here. absurd (omega arith)) (λ next. first_place_fails z rest k (omega arith)) (found_at a rest)

  pub first_place_passes : (z : A) (x : List A) → first_place test x < length x → test (get_or x (first_place test x) z) ≡ true
  unfolding first_place
  first_place_passes z [] l = absurd (Nat.not-suc-le-zero l)
  first_place_passes z (a ∷ rest) l =
      ⊎_elim (λ here. rw here.1 here.0) (λ next. rw next.1 (first_place_passes z rest (omega arith))) (found_at a rest)

  pub first_place_only : (z : A) (x : List A) (i : ℕ) → i ≤ length x → ((k : ℕ) → k < i → test (get_or x k z) ≡ false) → (i < length x → test (get_or x i z) ≡ true)
      → i ≡ first_place test x
  first_place_only z x i within before at =
      let no_less : ¬ (i < first_place test x) = λ low. true≢false (sym (at (omega (arith, first_place_length x))) ∙ first_place_fails z x i low) in
      let no_more : ¬ (first_place test x < i) = λ high. true≢false (sym (first_place_passes z x (omega arith)) ∙ before (first_place test x) high) in
      omega arith
