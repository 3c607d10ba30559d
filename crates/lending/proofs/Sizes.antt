-- A size is allowed where it is at least the least, at most 1024 and a power of two by std's test (allowed_within), and not elsewhere (refused_without). An allowed size is small
-- (size_small), and so is twice one (small_product). Assumes nothing.
use mathlib.Core.Bool.{Bool, true, false, ◌&&◌}
use mathlib.Core.Path.{◌≡◌, refl, ◌∙◌, ap, subst⁻¹}
use Prim.Native.Nat.{ℕ, ◌*◌, ◌≤◌}
use native.Mathlib.Nat.{mul-le-mul}
use native.Mathlib.Omega.{arith}
use lib.Count.{ones}
use lib.Dec.{T, leb, le→leb}
use Rattle.std.specs.Int.{is_power_of_two}
use Rattle.ring.specs.Finite.{tab, all_below}
use Rattle.ring.proofs.Below.{all_below_at, true_is, false_is}
use Rattle.sums.specs.Size.{one_of, powers_of_two, power_of_two, allowed_size}
use Rattle.sums.proofs.Sizes.{allowed_exponent, allowed_small}

abbrev same : Bool → Bool → Bool
same true b = b
same false true = false
same false false = true

agree : (a b : Bool) → T (same a b) → a ≡ b
agree true b t = true_is b t
agree false true t = absurd t
agree false false t = refl

-- std's test and the paper's list agree: each number below 1025 is tried
tried : T (all_below 1025 (λ n. same (is_power_of_two n) (power_of_two n)))
unfolding ones all_below power_of_two powers_of_two one_of tab
tried = tt

pub allowed_within : (least n : ℕ) → least ≤ n → n ≤ 1024 → is_power_of_two n ≡ allowed_size least n
unfolding allowed_size
allowed_within least n enough small =
    agree (is_power_of_two n) (power_of_two n) (all_below_at 1025 (λ m. same (is_power_of_two m) (power_of_two m)) tried n (omega arith))
    ∙ ap (λ (b : Bool). b && power_of_two n) (true_is (leb least n) (le→leb least n enough))

pub refused_without : (least n : ℕ) → (least ≤ n → n ≤ 1024 → ⊥) → false ≡ allowed_size least n
refused_without least n outside =
    false_is (allowed_size least n) (λ t. outside (allowed_exponent least n t).3 (allowed_small least n t))

pub size_small : (least n : ℕ) → allowed_size least n ≡ true → n ≤ 1024
size_small least n allowed = allowed_small least n (subst⁻¹ T allowed tt)

-- twice an allowed size at most
pub small_product : (k least n : ℕ) → k ≤ 2 → allowed_size least n ≡ true → k * n ≤ 2048
small_product k least n twice allowed = mul-le-mul twice (size_small least n allowed)
