-- What the loops that fill a window leave, in the paper's words: the flat window and the sine window. Assumes nothing.
use mathlib.Core.Path.{◌≡◌, refl, sym, ◌∙◌, ap, ap₂}
use mathlib.Core.Bool.{true}
use mathlib.Core.List.{List, [], ◌∷◌}
use Prim.Native.Nat.{ℕ, zero, suc, ◌+◌, ◌*◌, ◌^◌, ◌%◌, ◌≤◌, ◌<◌}
use native.Mathlib.Nat as Nat
use native.Mathlib.Omega.{arith}
use lib.Dec.{T}
use lib.ListN.{length, replicate}
use Rattle.answers.specs.Said.{accepted}
use Rattle.lending.proofs.Accepted.{ok_passed}
use Rattle.lending.proofs.Lengths.{fit_lengths}
use Rattle.sums.proofs.Sizes.{allowed_power}
use Rattle.ring.specs.Finite.{tab}
use Rattle.ring.proofs.Modular.{mul_mod}
use Rattle.ring.proofs.Table.{tab_ext}
use Rattle.sums.specs.Residue.{p, √2, √2⁻¹}
use Rattle.sums.specs.Angle.{sin_turn}
use Rattle.sums.specs.Call.{fill_answer}
use Rattle.sums.specs.Lengths.{lengths_fit}
use Rattle.sums.specs.Size.{allowed_size, exponent_of}
use Rattle.sums.specs.Window.{flat_window, sine_window}
use Rattle.sums.proofs.Constants.{√2_is, √2⁻¹_is}
use Rattle.sums.proofs.Turns.{sin_units_is}

-- 1/(8n) of a turn is unit entries of a table of 8192
module _ (n unit : ℕ) (parts : unit * (8 * n) ≡ 8192) where
  pub place_below : (i : ℕ) → i < 2 * n → (2 * i + 1) * unit < 8192
  place_below i below =
      let odd : 2 * i + 1 ≤ 4 * n = omega arith in
      omega (arith, Nat.mul-le-mul odd (Nat.le_refl unit))

  pub arch_value : (i factor v r turn : ℕ) → turn ≡ 8192 → v ≡ sin_turn ((2 * i + 1) * unit) turn → r ≡ v * factor % p
      → r ≡ sin_turn (2 * i + 1) (8 * n) * factor % p
  arch_value i factor v r turn whole is product =
      product
      ∙ ap (λ (x : ℕ). x * factor % p)
      (is ∙ ap (sin_turn ((2 * i + 1) * unit)) whole ∙ sym (sin_units_is 8192 refl unit (8 * n) parts (2 * i + 1)))

-- the same value everywhere
same_everywhere : (k v : ℕ) → replicate k v ≡ tab k (λ i. v)
unfolding tab
same_everywhere zero v = refl
same_everywhere (suc k) v = ap (λ (t : List ℕ). v ∷ t) (same_everywhere k v)

-- n is allowed, so that it is a power of two
module _ (n : ℕ) (allowed : T (allowed_size 2 n)) where
  pub flat_made : (w : List ℕ) (r : ℕ) → length w ≡ 2 * n → r ≡ 1 * 441024591 ^ exponent_of n % p
      → replicate (length w) r ≡ flat_window (exponent_of n)
  unfolding flat_window
  flat_made w r whole is =
      same_everywhere (length w) r
      ∙ ap₂ (λ (k v : ℕ). tab k (λ i. v)) (whole ∙ ap (λ (x : ℕ). 2 * x) (allowed_power 2 n allowed).1)
      (is ∙ ap (λ (x : ℕ). x % p) (Nat.one-mul (441024591 ^ exponent_of n)) ∙ ap (λ (x : ℕ). x ^ exponent_of n % p) (sym √2⁻¹_is))

  pub sine_made : (r : ℕ) → r ≡ 882049182 * 441024591 ^ exponent_of n % p
      → tab (2 * n) (λ i. sin_turn (2 * i + 1) (8 * n) * r % p) ≡ sine_window (exponent_of n)
  unfolding sine_window
  sine_made r is =
      tab_ext (2 * n)
      (λ i below.
      ap (λ (x : ℕ). sin_turn (2 * i + 1) (8 * n) * x % p)
      (is ∙ ap₂ (λ (x y : ℕ). x * y ^ exponent_of n % p) (sym √2_is) (sym √2⁻¹_is))
      ∙ mul_mod (sin_turn (2 * i + 1) (8 * n)) (√2 * √2⁻¹ ^ exponent_of n) p)
      ∙ ap (λ (k : ℕ). tab (2 * k) (λ i. sin_turn (2 * i + 1) (8 * k) * (√2 * √2⁻¹ ^ exponent_of n) % p)) (allowed_power 2 n allowed).1

-- a fill that is answered `Ok` has an allowed size and a slice of its length
pub fill_passed : (n : ℕ) (w : List ℕ) → accepted [] ≡ fill_answer n w → T (allowed_size 2 n) × (length w ≡ 2 * n)
fill_passed n w asked =
    let tests = ok_passed (allowed_size 2 n) (lengths_fit (length w) (2 * n) 0 0) [] true asked in
    (tests.0, (fit_lengths (length w) (2 * n) 0 0 tests.1).0)
