-- The sizes of document 01: `one_of` holds of the entries of a list that is given by its rule (one_of_tab, tab_one_of), so that `allowed_size least`
-- allows exactly the powers of two from `least` to 1024, and `exponent_of` is their exponent (exponent_of_is, allowed_power), also of 2048 (exponent_of_power). From 2 on they are even
-- (allowed_even). A later beginning allows no more (allowed_sooner). Assumes nothing.
use mathlib.Core.Bool.{Bool, true, false, ◌||◌}
use mathlib.Core.Logic.{◌⊎◌, inl, inr, ⊎_elim}
use mathlib.Core.Path.{◌≡◌, refl, sym, ◌∙◌, ap, ap₂}
use Prim.Native.Nat.{ℕ, zero, suc, ◌^◌, ◌%◌, ◌<◌, ◌≤◌}
use native.Mathlib.Nat.{not-suc-le-zero, le_of_suc-le-suc, pow-zero, pow-suc}
use native.Mathlib.Decide.{dec_lt}
use native.Mathlib.Omega.{arith}
use lib.Dec.{T, leb, leb→le, le→leb, eqb, eqb→eq, eqb_refl}
use lib.Pow.{pow_mono, pow_pos}
use borrow.Author.Tests.{eq-eqb, ne_eqb}
use Rattle.ring.specs.Finite.{tab, place_by, first_place}
use Rattle.ring.proofs.Below.{both_left, both_right, both_of}
use Rattle.sums.specs.Size.{one_of, powers_of_two, power_of_two, allowed_size, exponent_of}

pub or_cases : (a b : Bool) → T (a || b) → T a ⊎ T b
or_cases true b t = inl tt
or_cases false b t = inr t

pub or_first : (a b : Bool) → T a → T (a || b)
or_first true b t = tt
or_first false b t = absurd t

pub or_second : (a b : Bool) → T b → T (a || b)
or_second true b t = tt
or_second false b t = t

one_of_tab : (count : ℕ) (f : ℕ → ℕ) (n : ℕ) → T (one_of (tab count f) n) → (k : ℕ) × (k < count) × (n ≡ f k)
unfolding one_of tab
one_of_tab zero f n t = absurd t
one_of_tab (suc count) f n t =
    ⊎_elim (λ h. (zero, omega arith, eqb→eq n (f zero) h))
    (λ h. let found = one_of_tab count (λ k. f (suc k)) n h in (suc found.0, omega arith, found.2))
    (or_cases (eqb n (f zero)) (one_of (tab count (λ k. f (suc k))) n) t)

tab_one_of : (count : ℕ) (f : ℕ → ℕ) (k : ℕ) → k < count → T (one_of (tab count f) (f k))
unfolding one_of tab
tab_one_of zero f k l = absurd (not-suc-le-zero l)
tab_one_of (suc count) f zero l = or_first (eqb (f zero) (f zero)) (one_of (tab count (λ k. f (suc k))) (f zero)) (eqb_refl (f zero))
tab_one_of (suc count) f (suc k) l =
    or_second (eqb (f (suc k)) (f zero)) (one_of (tab count (λ k. f (suc k))) (f (suc k)))
    (tab_one_of count (λ k. f (suc k)) k (le_of_suc-le-suc l))

pub allowed_exponent : (least n : ℕ) → T (allowed_size least n) → (m : ℕ) × (m ≤ 10) × (n ≡ 2 ^ m) × (least ≤ n)
unfolding allowed_size power_of_two powers_of_two
allowed_exponent least n t =
    let found = one_of_tab 11 (λ k. 2 ^ k) n (both_right (leb least n) (power_of_two n) t) in
    (found.0, omega arith, found.2, leb→le least n (both_left (leb least n) (power_of_two n) t))

pub allowed_small : (least n : ℕ) → T (allowed_size least n) → n ≤ 1024
allowed_small least n t =
    let found = allowed_exponent least n t in
    let most : 2 ^ found.0 ≤ 1024 = pow_mono found.1 in
    omega (arith, found.2)

-- what is allowed where the sizes begin later is allowed where they begin sooner
pub allowed_sooner : (least later n : ℕ) → least ≤ later → T (allowed_size later n) → T (allowed_size least n)
unfolding allowed_size
allowed_sooner least later n sooner t =
    let enough : least ≤ n = omega (arith, leb→le later n (both_left (leb later n) (power_of_two n) t)) in
    both_of (leb least n) (power_of_two n) (le→leb least n enough) (both_right (leb later n) (power_of_two n) t)

pub exponent_allowed : (least m : ℕ) → m ≤ 10 → least ≤ 2 ^ m → T (allowed_size least (2 ^ m))
unfolding allowed_size power_of_two powers_of_two
exponent_allowed least m small enough =
    both_of (leb least (2 ^ m)) (power_of_two (2 ^ m)) (le→leb least (2 ^ m) enough)
    (tab_one_of 11 (λ k. 2 ^ k) m (omega arith))

-- the place of an entry that stands nowhere before
place_in_tab : (count : ℕ) (f : ℕ → ℕ) (k : ℕ) → k < count → ((i : ℕ) → i < k → f k ≡ f i → ⊥) → first_place (eqb (f k)) (tab count f) ≡ k
unfolding first_place tab
place_in_tab zero f k l fresh = omega arith
place_in_tab (suc count) f zero l fresh = ap (λ (b : Bool). place_by b (first_place (eqb (f zero)) (tab count (λ k. f (suc k))))) (eq-eqb (f zero) (f zero) refl)
place_in_tab (suc count) f (suc k) l fresh =
    ap₂ place_by (ne_eqb (f (suc k)) (f zero) (fresh zero (omega arith)))
    (place_in_tab count (λ k. f (suc k)) k (omega arith) (λ i below. fresh (suc i) (omega arith)))

pub exponent_of_is : (n m : ℕ) → m ≤ 10 → n ≡ 2 ^ m → exponent_of n ≡ m
unfolding exponent_of powers_of_two
exponent_of_is n m small is =
    ap (λ (i : ℕ). first_place (eqb i) (tab 11 (λ k. 2 ^ k))) is
    ∙ place_in_tab 11 (λ k. 2 ^ k) m (omega arith) (λ i below same. omega (arith, pow_mono below, pow-suc 2 i, pow_pos i))

-- 2048 stands behind the powers that a size may be, at the place 11
past_all : exponent_of 2048 ≡ 11
unfolding exponent_of powers_of_two first_place tab
past_all = refl

pub exponent_of_power : (n m : ℕ) → m ≤ 11 → n ≡ 2 ^ m → exponent_of n ≡ m
exponent_of_power n m small is =
    elim (dec_lt m 11) [
      | yes below ↦ exponent_of_is n m (omega arith) is
      | no above ↦ let eleven : 11 ≡ m = omega arith in ap exponent_of (is ∙ ap (λ (k : ℕ). 2 ^ k) (sym eleven)) ∙ past_all ∙ eleven
    ]

pub allowed_power : (least n : ℕ) → T (allowed_size least n) → (exponent_of n ≤ 10) × (n ≡ 2 ^ exponent_of n)
allowed_power least n t =
    let found = allowed_exponent least n t in
    let is = exponent_of_is n found.0 found.1 found.2 in
    (omega (arith, is, found.1), found.2 ∙ ap (λ (m : ℕ). 2 ^ m) (sym is))

pub allowed_even : (n : ℕ) → T (allowed_size 2 n) → n % 2 ≡ 0
allowed_even n t = let found = allowed_exponent 2 n t in even found.0 found.2 found.3
  where
    even : (m : ℕ) → n ≡ 2 ^ m → 2 ≤ n → n % 2 ≡ 0
    even zero is enough = omega (arith, is, pow-zero 2)
    even (suc m) is enough = omega (arith, is, pow-suc 2 m)
