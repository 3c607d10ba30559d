-- A value that is multiplied by a factor again and again: at first (scaled_none) and once more (scaled_more). An allowed size is 2^m with as many noughts at the end
-- (doublings). Assumes nothing.
use mathlib.Core.Bool.{Bool, true, false}
use mathlib.Core.Path.{◌≡◌, sym, ◌∙◌, ap}
use Prim.Native.Nat.{ℕ, ◌+◌, ◌*◌, ◌^◌, ◌%◌, ◌<◌}
use native.Mathlib.Nat as Nat
use native.Mathlib.Numerals.{add-one}
use native.Mathlib.Omega.{arith}
use lib.Count.{count_trailing_zeros}
use lib.Dec.{T, leb, eqb, eqb→eq}
use Rattle.ring.specs.Finite.{tab, all_below, first_place}
use Rattle.ring.proofs.Below.{all_below_at, both_right}
use Rattle.ring.proofs.Modular.{mod_mul}
use Rattle.sums.specs.Residue.{p}
use Rattle.sums.specs.Size.{one_of, powers_of_two, power_of_two, allowed_size, exponent_of}
use Rattle.sums.proofs.Sizes.{allowed_small}

pub scaled_none : (first factor : ℕ) → first < p → first ≡ first * factor ^ 0 % p
scaled_none first factor below =
    sym (ap (λ (x : ℕ). first * x % p) (Nat.pow-zero factor) ∙ ap (λ (x : ℕ). x % p) (Nat.mul-one first) ∙ Nat.mod-eq_of_lt below)

pub scaled_more : (first factor k value : ℕ) → value ≡ first * factor ^ k % p → value * factor % p ≡ first * factor ^ (k + 1) % p
scaled_more first factor k value is =
    ap (λ (x : ℕ). x * factor % p) is ∙ mod_mul (first * factor ^ k) factor p
    ∙ ap (λ (x : ℕ). x % p) (Nat.mul_assoc first (factor ^ k) factor ∙ ap (λ (x : ℕ). first * x) (sym (Nat.pow-suc factor k)))
    ∙ ap (λ (m : ℕ). first * factor ^ m % p) (sym (add-one k))

-- what is to hold of the powers of two
abbrev if_so : Bool → Bool → Bool
if_so true b = b
if_so false b = true

held : (a b : Bool) → T (if_so a b) → T a → T b
held true b t s = t
held false b t s = absurd s

-- each number below 1025 is tried
tried : T (all_below 1025 (λ n. if_so (power_of_two n) (eqb (count_trailing_zeros 64 n) (exponent_of n))))
unfolding all_below power_of_two powers_of_two one_of tab exponent_of first_place count_trailing_zeros
tried = tt

pub doublings : (n : ℕ) → T (allowed_size 2 n) → count_trailing_zeros 64 n ≡ exponent_of n
unfolding allowed_size
doublings n allowed =
    eqb→eq (count_trailing_zeros 64 n) (exponent_of n)
    (held (power_of_two n) (eqb (count_trailing_zeros 64 n) (exponent_of n))
    (all_below_at 1025 (λ m. if_so (power_of_two m) (eqb (count_trailing_zeros 64 m) (exponent_of m))) tried n (omega (arith, allowed_small 2 n allowed)))
    (both_right (leb 2 n) (power_of_two n) allowed))
