-- Entries compared in pairs, and entries compared with what a function says of their places: as many pass as `alike` counts (counted_zip,
-- counted_enumerate). `alike` counts from the last place down, and a chain of iterators from the first on (alike_cons). Assumes nothing.
use mathlib.Core.Bool.{Bool, true, false}
use mathlib.Core.List.{List, [], ◌∷◌}
use mathlib.Core.Path.{◌≡◌, refl, sym, ap, ap₂, ◌∙◌}
use Prim.Native.Nat.{ℕ, zero, suc, ◌+◌, ◌<◌}
use native.Mathlib.Nat.{zero-add}
use native.Mathlib.Omega.{arith}
use lib.Dec.{eqb}
use lib.ListN.{length, get_or}
use Rattle.std.proofs.lemmas.List.Sums.{sum_by-cons}
use Rattle.std.specs.List.{count_by, zip, enumerate_from}
use Rattle.std.specs.Prelude.{cond}
use Rattle.ring.specs.Finite.{tab}
use Rattle.ring.proofs.Table.{get_or_tab, length_tab}
use Rattle.counting.specs.Counted.{one, alike}
use Rattle.counting.specs.Lent.{mark_or_zero, marked}

one_cond : (b : Bool) → cond b 1 0 ≡ one b
one_cond true = refl
one_cond false = refl

alike_cons : (n x y : ℕ) (xs ys : List ℕ) → one (eqb x y) + alike n xs ys ≡ alike (suc n) (x ∷ xs) (y ∷ ys)
unfolding alike
alike_cons zero x y xs ys = omega arith
alike_cons (suc n) x y xs ys = omega (arith, alike_cons n x y xs ys)

-- one pair more at the front of what is counted
counted_more : {X : Type 0} (test : X → Bool) (item : X) (items : List X) (x y : ℕ) (xs ys : List ℕ) → test item ≡ eqb x y → count_by test items ≡ alike (length xs) xs ys → count_by test (item ∷ items) ≡ alike (length (x ∷ xs)) (x ∷ xs) (y ∷ ys)
counted_more test item items x y xs ys same rest =
    sum_by-cons (λ i. cond (test i) 1 0) item items
    ∙ ap₂ (λ (a b : ℕ). a + b) (ap (λ (b : Bool). cond b 1 0) same ∙ one_cond (eqb x y)) rest
    ∙ alike_cons (length xs) x y xs ys

pub counted_zip : (xs ys : List ℕ) → length xs ≡ length ys → count_by (λ (q : ℕ × ℕ). eqb q.0 q.1) (zip xs ys) ≡ alike (length xs) xs ys
unfolding alike
counted_zip [] ys same = refl
counted_zip (x ∷ xs) [] same = absurd (omega arith)
counted_zip (x ∷ xs) (y ∷ ys) same = counted_more _ (x, y) (zip xs ys) x y xs ys refl (counted_zip xs ys (omega arith))

counted_from : (f : ℕ → ℕ) (from : ℕ) (xs ys : List ℕ) → length ys ≡ length xs → ((k : ℕ) → k < length xs → f (from + k) ≡ get_or ys k 0) → count_by (λ (q : ℕ × ℕ). eqb q.1 (f q.0)) (enumerate_from from xs) ≡ alike (length xs) xs ys
unfolding alike
counted_from f from [] ys same holds = refl
counted_from f from (x ∷ xs) [] same holds = absurd (omega arith)
counted_from f from (x ∷ xs) (y ∷ ys) same holds =
    let first : f from ≡ y = ap f (omega arith) ∙ holds 0 (omega arith) in
    counted_more _ (from, x) (enumerate_from (from + 1) xs) x y xs ys (ap (λ (v : ℕ). eqb x v) first)
    (counted_from f (from + 1) xs ys (omega arith) (λ k below. ap f (omega arith) ∙ holds (suc k) (omega arith)))

pub counted_enumerate : (n : ℕ) (xs : List ℕ) → count_by (λ (q : ℕ × ℕ). eqb q.1 (mark_or_zero n q.0)) (enumerate_from 0 xs) ≡ alike (length xs) xs (marked n (length xs))
unfolding marked
counted_enumerate n xs =
    counted_from (mark_or_zero n) 0 xs (tab (length xs) (mark_or_zero n)) (length_tab (length xs) (mark_or_zero n))
    (λ k below. ap (mark_or_zero n) (zero-add k) ∙ sym (get_or_tab (length xs) (mark_or_zero n) k 0 below))
