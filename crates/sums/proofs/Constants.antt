-- The constants of document 01 are what their names say: each inverse is one, g has order 8192, j² = −1, (√2)² = 2. Assumes nothing.
use mathlib.Core.Path.{◌≡◌, refl, sym, ◌∙◌, ap, ap₂}
use mathlib.Core.Logic.{◌≢◌}
use Prim.Native.Nat.{ℕ, ◌+◌, ◌*◌, ◌^◌, ◌%◌, ◌<◌}
use native.Mathlib.Nat as Nat
use native.Mathlib.Omega.{arith}
use lib.Dec.{lit<}
use Rattle.ring.proofs.Ring as Ring
use Rattle.ring.proofs.Ring.{Ring}
use Rattle.ring.proofs.Turn.{Turn}
use Rattle.ring.proofs.Order.{order}
use Rattle.ring.proofs.Modular.{Residue, of, modular, of_eq, mod_eq, of_one, of_mul, of_pow, of_add, of_neg, mod_mul}
use Rattle.sums.specs.Residue.{p, half, minus_one, g, g⁻¹, j, j⁻¹, √2, √2⁻¹}

-- the numbers, computed once
pub g_is : g ≡ 350007156
unfolding g
g_is = refl

pub g⁻¹_is : g⁻¹ ≡ 358024708
unfolding g⁻¹
g⁻¹_is = ap (λ (x : ℕ). x ^ 8191 % p) g_is

pub g_inverse : g * g⁻¹ % p ≡ 1
g_inverse = ap₂ (λ (x y : ℕ). x * y % p) g_is g⁻¹_is

pub half_inverse : 2 * half % p ≡ 1
half_inverse = refl

pub g_half_turn : g ^ 4096 % p ≡ minus_one
g_half_turn = ap (λ (x : ℕ). x ^ 4096 % p) g_is

pub j_is : j ≡ 911660635
unfolding j
j_is = ap (λ (x : ℕ). x ^ 2048 % p) g_is

pub j⁻¹_is : j⁻¹ ≡ 86583718
unfolding j⁻¹
j⁻¹_is = ap (λ (x : ℕ). x ^ 2048 % p) g⁻¹_is

pub j_square : j * j % p ≡ minus_one
j_square = ap (λ (x : ℕ). x * x % p) j_is

pub j_inverse : j * j⁻¹ % p ≡ 1
j_inverse = ap₂ (λ (x y : ℕ). x * y % p) j_is j⁻¹_is

pub √2_is : √2 ≡ 882049182
unfolding √2
√2_is = ap₂ (λ (x y : ℕ). (x ^ 1024 + y ^ 1024) % p) g_is g⁻¹_is

pub √2⁻¹_is : √2⁻¹ ≡ 441024591
unfolding √2⁻¹
√2⁻¹_is = ap (λ (x : ℕ). x * half % p) √2_is

pub √2_square : √2 * √2 % p ≡ 2
√2_square = ap (λ (x : ℕ). x * x % p) √2_is

pub √2_inverse : √2 * √2⁻¹ % p ≡ 1
√2_inverse = ap₂ (λ (x y : ℕ). x * y % p) √2_is √2⁻¹_is

pub √2⁻¹_square : 2 * (√2⁻¹ * √2⁻¹) % p ≡ 1
√2⁻¹_square = ap (λ (x : ℕ). 2 * (x * x) % p) √2⁻¹_is

pub above : 0 < p
above = lit< tt

-- a sum times a factor depends on its parts mod p alone
pub reduced : (x y v w f : ℕ) → x % p ≡ v % p → y % p ≡ w % p → (x + y) * f % p ≡ (v + w) * f % p
reduced x y v w f hx hy =
    sym (mod_mul (x + y) f p)
    ∙ ap (λ (z : ℕ). z * f % p) (Nat.add-mod x y p ∙ ap₂ (λ (a b : ℕ). (a + b) % p) hx hy ∙ sym (Nat.add-mod v w p))
    ∙ mod_mul (v + w) f p

-- residues modulo p
abbrev pub Zp : Ring (Residue p)
Zp = modular p above

pub half_twice : Zp.add (of p half) (of p half) ≡ Zp.one
half_twice = sym (of_add p above half half) ∙ of_eq p (half + half) 1 refl ∙ of_one p above

pub minus_one_is : of p minus_one ≡ Zp.neg Zp.one
minus_one_is = of_neg p above 1 minus_one refl ∙ ap Zp.neg (of_one p above)

-- a product with −1 is the negative
pub of_minus : (n : ℕ) → of p (minus_one * n) ≡ Zp.neg (of p n)
of_minus n =
    of_mul p above minus_one n ∙ ap (λ (x : Residue p). Zp.mul x (of p n)) minus_one_is ∙ Ring.neg_mul Zp Zp.one (of p n)
    ∙ ap Zp.neg (Zp.one_mul (of p n))

-- the turn of 8192 units: a quarter is 2048
unfoldable pub turn : Turn Zp 2048
turn =
    record {
      half = of p half;
      root = of p g;
      inverse = of p g⁻¹;
      half_is = half_twice;
      inverse_is = sym (of_mul p above g g⁻¹) ∙ of_eq p (g * g⁻¹) 1 g_inverse ∙ of_one p above;
      half_turn = sym (of_pow p above g 4096) ∙ of_eq p (g ^ 4096) minus_one g_half_turn ∙ minus_one_is;
    }

pub turn_half : turn.half ≡ of p half
unfolding turn
turn_half = refl

pub turn_root : turn.root ≡ of p g
unfolding turn
turn_root = refl

pub turn_inverse : turn.inverse ≡ of p g⁻¹
unfolding turn
turn_inverse = refl

-- g has order 8192: g^8192 = 1, and no smaller power but g^0 is 1
pub g_whole_turn : g ^ 8192 % p ≡ 1
g_whole_turn = ap (λ (x : ℕ). x ^ 8192 % p) g_is

pub g_order : (k : ℕ) → 0 < k → k < 8192 → g ^ k % p ≢ 1
g_order k low high e =
    let same : Zp.one ≡ Zp.neg Zp.one =
    order Zp 11 2048 refl turn k low high
    (ap (λ (x : Residue p). Ring.pow Zp x k) turn_root ∙ sym (of_pow p above g k) ∙ of_eq p (g ^ k) 1 e ∙ of_one p above) in
    let numbers : 1 ≡ minus_one = mod_eq p 1 minus_one (of_one p above ∙ same ∙ sym minus_one_is) in
    omega arith
