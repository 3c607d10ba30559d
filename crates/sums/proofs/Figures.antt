-- Document 01, "Twelve figures to be shown together": proved from the definitions by a single computed list.
-- The definitions name unreduced powers of g, which grow to 400,000 bits; `cos_fast_is` and `sin_fast_is` put powers by repeated squaring,
-- reduced at each step, in their place, and the list then computes. Assumes nothing.
use mathlib.Core.Path.{◌≡◌, refl, sym, ◌∙◌, ap, fun_ext}
use Prim.Native.Nat.{ℕ, zero, suc, ◌+◌, ◌*◌, ◌^◌, ◌%◌, ◌/◌, ◌≤◌}
use native.Mathlib.Nat as Nat
use native.Mathlib.Omega.{arith}
use lib.Pow.{pow-add}
use Rattle.ring.specs.Finite.{sum_of, tab, all_below, first_place}
use Rattle.ring.proofs.Modular.{mod_mul, mul_mod}
use Rattle.sums.specs.Residue.{p, half, minus_one, g, g⁻¹, √2, √2⁻¹}
use Rattle.sums.specs.Angle.{cos_of, sin_of}
use Rattle.sums.specs.Transform.{dct2_sum, dst2_sum, dct3_sum, dst3_sum, dct4_sum, dst4_sum, mdct_sum, imdct_sum}
use Rattle.sums.specs.Window.{accepted_window, flat_window}
use Rattle.sums.specs.Size.{one_of, powers_of_two, power_of_two, allowed_size}
use Rattle.sums.specs.Lengths.{lengths_fit}
use Rattle.sums.specs.Bad.{sound_entries}
use Rattle.sums.specs.Figure.{computed_figures, stated_figures}
use Rattle.sums.specs.Curve.{blocks_after, blocks_of, overlapped, curve_of, total, pooled, pooled_blocks}
use Rattle.sums.specs.Example.{computed_examples, stated_examples, computed_reading, stated_reading}
use Rattle.sums.proofs.Constants.{g_is, g⁻¹_is, j⁻¹_is, reduced}

-- a^k mod p by repeated squaring; d bounds the depth
power : ℕ → ℕ → ℕ → ℕ
power zero a k = 1
power (suc d) a zero = 1
power (suc d) a (suc k) = power d (a * a % p) (suc k / 2) * a ^ (suc k % 2) % p

square_power : (a h : ℕ) → (a * a) ^ h ≡ a ^ (2 * h)
square_power a zero = Nat.pow-zero (a * a) ∙ sym (Nat.pow-zero a)
square_power a (suc h) =
    let double : 2 * suc h ≡ suc (suc (2 * h)) = omega arith in
    Nat.pow-suc (a * a) h ∙ ap (λ (x : ℕ). x * (a * a)) (square_power a h) ∙ sym (Nat.mul_assoc (a ^ (2 * h)) a a)
    ∙ ap (λ (x : ℕ). x * a) (sym (Nat.pow-suc a (2 * h))) ∙ sym (ap (λ (x : ℕ). a ^ x) double ∙ Nat.pow-suc a (suc (2 * h)))

mod_power : (a k : ℕ) → (a % p) ^ k % p ≡ a ^ k % p
mod_power a zero = ap (λ (x : ℕ). x % p) (Nat.pow-zero (a % p) ∙ sym (Nat.pow-zero a))
mod_power a (suc k) =
    ap (λ (x : ℕ). x % p) (Nat.pow-suc (a % p) k) ∙ mul_mod ((a % p) ^ k) a p ∙ sym (mod_mul ((a % p) ^ k) a p)
    ∙ ap (λ (x : ℕ). x * a % p) (mod_power a k) ∙ mod_mul (a ^ k) a p ∙ ap (λ (x : ℕ). x % p) (sym (Nat.pow-suc a k))

power_is : (d a k : ℕ) → k ≤ d → power d a k ≡ a ^ k % p
unfolding power
power_is zero a k l =
    let none : 0 ≡ k = omega arith in
    ap (λ (x : ℕ). x % p) (sym (Nat.pow-zero a)) ∙ ap (λ (x : ℕ). a ^ x % p) none
power_is (suc d) a zero l = ap (λ (x : ℕ). x % p) (sym (Nat.pow-zero a))
power_is (suc d) a (suc k) l =
    let whole : 2 * (suc k / 2) + suc k % 2 ≡ suc k = Nat.div-add-mod (suc k) 2 in
    ap (λ (x : ℕ). x * a ^ (suc k % 2) % p)
    (power_is d (a * a % p) (suc k / 2) (omega arith) ∙ mod_power (a * a) (suc k / 2))
    ∙ mod_mul ((a * a) ^ (suc k / 2)) (a ^ (suc k % 2)) p
    ∙ ap (λ (x : ℕ). x % p)
    (ap (λ (x : ℕ). x * a ^ (suc k % 2)) (square_power a (suc k / 2)) ∙ sym (pow-add a (2 * (suc k / 2)) (suc k % 2))
    ∙ ap (λ (x : ℕ). a ^ x) whole)

-- a power of g or 1/g, by squaring
power_mod : (a b k : ℕ) → a ≡ b → a ^ k % p ≡ power k b k % p
power_mod a b k e =
    ap (λ (x : ℕ). x ^ k % p) e ∙ sym (Nat.mod-mod (b ^ k) p) ∙ ap (λ (x : ℕ). x % p) (sym (power_is k b k (Nat.le_refl k)))

cos_fast : ℕ → ℕ
cos_fast k = (power k 350007156 k + power k 358024708 k) * half % p

sin_fast : ℕ → ℕ
sin_fast k = (power k 350007156 k + minus_one * power k 358024708 k) * (half * 86583718) % p

cos_fast_is : cos_of ≡ cos_fast
unfolding cos_of cos_fast
cos_fast_is =
    fun_ext (λ k.
    reduced (g ^ k) (g⁻¹ ^ k) (power k 350007156 k) (power k 358024708 k) half (power_mod g 350007156 k g_is)
    (power_mod g⁻¹ 358024708 k g⁻¹_is))

sin_fast_is : sin_of ≡ sin_fast
unfolding sin_of sin_fast
sin_fast_is =
    fun_ext (λ k.
    ap (λ (x : ℕ). (g ^ k + minus_one * g⁻¹ ^ k) * (half * x) % p) j⁻¹_is
    ∙ reduced (g ^ k) (minus_one * g⁻¹ ^ k) (power k 350007156 k) (minus_one * power k 358024708 k) (half * 86583718)
    (power_mod g 350007156 k g_is)
    (sym (mul_mod minus_one (g⁻¹ ^ k) p) ∙ ap (λ (x : ℕ). minus_one * x % p) (power_mod g⁻¹ 358024708 k g⁻¹_is)
    ∙ mul_mod minus_one (power k 358024708 k) p))

pub the_twelve : computed_figures ≡ stated_figures
unfolding dct2_sum dst2_sum dct3_sum dst3_sum dct4_sum
the_twelve =
    rw (cos_fast_is, sin_fast_is)
    (unfold sum_of tab all_below cos_fast sin_fast power accepted_window one_of powers_of_two power_of_two allowed_size lengths_fit first_place sound_entries in refl)

-- the examples of DST-IV
pub the_examples : computed_examples ≡ stated_examples
unfolding dct4_sum dst4_sum
the_examples =
    rw (cos_fast_is, sin_fast_is) (unfold sum_of tab cos_fast sin_fast power √2⁻¹ √2 g g⁻¹ in refl)

-- the example of a reading
pub the_reading : computed_reading ≡ stated_reading
unfolding mdct_sum imdct_sum flat_window blocks_after blocks_of overlapped curve_of total pooled pooled_blocks
the_reading = rw cos_fast_is (unfold sum_of tab cos_fast power √2⁻¹ √2 g g⁻¹ in refl)
