-- What n entries written over the front of a list leave: they stand there (front_of_is, copied_front), and clearing the first n or more takes them away
-- (cleared_again, copied_cleared, lent_cleared, lent_cleared_beyond). Over any type of entry. Assumes nothing.
use mathlib.Core.List.{List, ◌++◌}
use mathlib.Core.Path.{◌≡◌, sym, ◌∙◌, ap}
use Prim.Native.Nat.{ℕ, ◌+◌, ◌-◌, ◌≤◌}
use native.Mathlib.Nat as Nat
use native.Mathlib.Omega.{arith}
use lib.ListN.{length, take, drop, replicate}
use lib.Seq.{take-append_seam, drop-append-add, drop-drop}
use Rattle.ring.specs.Part.{cleared, copied}

module _ {A : Type 0} (n : ℕ) (front s : List A) (whole : length front ≡ n) where
  pub front_of_is : take (n - 0) (front ++ drop n s) ≡ front
  front_of_is = ap (λ (m : ℕ). take m (front ++ drop n s)) (Nat.sub-zero n ∙ sym whole) ∙ take-append_seam front (drop n s)

  -- m entries or more are cleared
  module _ (m : ℕ) (within : n ≤ m) (z : A) where
    rest_of : drop m (front ++ drop n s) ≡ drop m s
    rest_of =
        let place : m ≡ length front + (m - n) = omega arith in
        let all : n + (m - n) ≡ m = omega arith in
        ap (λ (k : ℕ). drop k (front ++ drop n s)) place ∙ drop-append-add front (drop n s) (m - n) ∙ drop-drop (m - n) n s
        ∙ ap (λ (k : ℕ). drop k s) all

    cleared_beyond : cleared z m (front ++ drop n s) ≡ cleared z m s
    cleared_beyond = ap (λ (rest : List A). replicate m z ++ rest) rest_of

    -- the same of a front that was lent as the part from 0 up to n
    pub lent_cleared_beyond : cleared z m (front ++ drop (n - 0) s) ≡ cleared z m s
    lent_cleared_beyond = ap (λ (k : ℕ). cleared z m (front ++ drop k s)) (Nat.sub-zero n) ∙ cleared_beyond

  pub cleared_again : (z : A) → cleared z n (front ++ drop n s) ≡ cleared z n s
  cleared_again = cleared_beyond n (Nat.le_refl n)

  pub lent_cleared : (z : A) → cleared z n (front ++ drop (n - 0) s) ≡ cleared z n s
  lent_cleared = lent_cleared_beyond n (Nat.le_refl n)

  -- the same of a front that was copied there
  module _ {t : List A} (is : t ≡ copied front s) where
    copied_is : t ≡ front ++ drop n s
    copied_is = is ∙ ap (λ (m : ℕ). front ++ drop m s) whole

    pub copied_front : take (n - 0) t ≡ front
    copied_front = ap (take (n - 0)) copied_is ∙ front_of_is

    pub copied_cleared : (z : A) → cleared z n t ≡ cleared z n s
    copied_cleared z = ap (cleared z n) copied_is ∙ cleared_again z
