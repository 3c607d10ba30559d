-- Tests that compute, and the facts they stand for: both of two, equality, all indices below a number. Assumes nothing.
use mathlib.Core.Path.{◌≡◌, refl, sym, subst}
use mathlib.Core.Logic.{⊎_elim}
use mathlib.Core.Bool.{Bool, true, false, ◌&&◌}
use Prim.Native.Nat.{ℕ, zero, suc, ◌+◌, ◌<◌}
use native.Mathlib.Nat as Nat
use native.Mathlib.Numerals.{add-one}
use native.Mathlib.Omega.{arith}
use lib.Dec.{T, eqb, eqb_refl}
use Rattle.ring.specs.Finite.{all_below}

pub both_left : (a b : Bool) → T (a && b) → T a
both_left true b t = tt
both_left false b t = t

pub both_right : (a b : Bool) → T (a && b) → T b
both_right true b t = t
both_right false b t = absurd t

pub both_of : (a b : Bool) → T a → T b → T (a && b)
both_of true b s t = t
both_of false b s t = s

pub eq→eqb : (m n : ℕ) → m ≡ n → T (eqb m n)
eq→eqb m n e = subst (λ (k : ℕ). T (eqb m k)) e (eqb_refl m)

pub all_below_at : (n : ℕ) (test : ℕ → Bool) → T (all_below n test) → (k : ℕ) → k < n → T (test k)
unfolding all_below
all_below_at zero test t k l = absurd (Nat.not-suc-le-zero l)
all_below_at (suc n) test t k l =
    ⊎_elim (λ (e : k ≡ n). subst (λ (i : ℕ). T (test i)) (sym e) (both_right (all_below n test) (test n) t))
    (λ (b : k < n). all_below_at n test (both_left (all_below n test) (test n) t) k b)
    (Nat.eq-or-lt_of_le (Nat.le_of_suc-le-suc l))

pub all_below_of : (n : ℕ) (test : ℕ → Bool) → ((k : ℕ) → k < n → T (test k)) → T (all_below n test)
unfolding all_below
all_below_of zero test e = tt
all_below_of (suc n) test e =
    both_of (all_below n test) (test n) (all_below_of n test (λ k l. e k (omega arith))) (e n (omega arith))

-- for a loop that tests one index after the other: no index, one more, and one that fails
pub all_below_more : (n : ℕ) (test : ℕ → Bool) → T (all_below n test) → T (test n) → T (all_below (n + 1) test)
unfolding all_below
all_below_more n test before here =
    subst (λ (m : ℕ). T (all_below m test)) (sym (add-one n)) (both_of (all_below n test) (test n) before here)

pub true_is : (b : Bool) → T b → true ≡ b
true_is true t = refl
true_is false t = absurd t

pub false_is : (b : Bool) → (T b → ⊥) → false ≡ b
false_is true f = absurd (f tt)
false_is false f = refl

pub all_below_fails : (n : ℕ) (test : ℕ → Bool) (k : ℕ) → k < n → (T (test k) → ⊥) → false ≡ all_below n test
all_below_fails n test k l f = false_is (all_below n test) (λ t. f (all_below_at n test t k l))
