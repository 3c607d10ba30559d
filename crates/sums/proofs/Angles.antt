-- Document 01's cos and sin over residues obey the laws of angles. Each is carried over from the turn of 8192 units over residues:
-- `of_cos` and `of_sin` say that the definitions are that turn's cs and sn.
-- Divisions: cos_divided, sin_divided. Sums: cos_add, sin_add, square_sum. Shifts: cos_turn_is, sin_turn_is, cos_half_turn, sin_half_turn,
-- sin_is_cos. Reflections: cos_opposite, sin_opposite, cos_quarter_less, sin_mirror. Assumes nothing.
use mathlib.Core.Path.{◌≡◌, sym, ◌∙◌, ap, ap₂}
use Prim.Native.Nat.{ℕ, ◌+◌, ◌*◌, ◌^◌, ◌%◌, ◌<◌}
use native.Mathlib.Nat as Nat
use native.Mathlib.Omega.{arith}
use Rattle.ring.proofs.Ring as Ring
use Rattle.ring.proofs.Sign as Sign
use Rattle.ring.proofs.Turn as Turn
use Rattle.ring.proofs.Modular.{Residue, of, mod_eq, of_mod, of_one, of_mul, of_pow, of_add, mod_mul, mul_mod}
use Rattle.sums.specs.Residue.{p, half, minus_one, g, g⁻¹, j, j⁻¹}
use Rattle.sums.specs.Angle.{cos_of, sin_of}
use Rattle.sums.proofs.Constants.{above, Zp, turn, turn_root, turn_inverse, of_minus, j_inverse}

-- the turn's cos and sin
abbrev pub cosine : ℕ → Residue p
cosine = Turn.cs Zp 2048 turn

abbrev pub sine : ℕ → Residue p
sine = Turn.sn Zp 2048 turn

pub of_cos : (k : ℕ) → of p (cos_of k) ≡ cosine k
unfolding cos_of Turn.cs turn
of_cos k =
    of_mod p ((g ^ k + g⁻¹ ^ k) * half) ∙ of_mul p above (g ^ k + g⁻¹ ^ k) half
    ∙ ap (λ (x : Residue p). Zp.mul x (of p half)) (of_add p above (g ^ k) (g⁻¹ ^ k) ∙ ap₂ Zp.add (of_pow p above g k) (of_pow p above g⁻¹ k))

pub of_sin : (k : ℕ) → of p (sin_of k) ≡ sine k
unfolding sin_of Turn.sn turn j⁻¹
of_sin k =
    of_mod p ((g ^ k + minus_one * g⁻¹ ^ k) * (half * j⁻¹)) ∙ of_mul p above (g ^ k + minus_one * g⁻¹ ^ k) (half * j⁻¹)
    ∙ ap₂ Zp.mul
    (of_add p above (g ^ k) (minus_one * g⁻¹ ^ k)
    ∙ ap₂ Zp.add (of_pow p above g k) (of_minus (g⁻¹ ^ k) ∙ ap Zp.neg (of_pow p above g⁻¹ k)))
    (of_mul p above half j⁻¹ ∙ ap (Zp.mul (of p half)) (of_mod p (g⁻¹ ^ 2048) ∙ of_pow p above g⁻¹ 2048))

pub cos_reduced : (k : ℕ) → cos_of k % p ≡ cos_of k
unfolding cos_of
cos_reduced k = Nat.mod-mod ((g ^ k + g⁻¹ ^ k) * half) p

pub sin_reduced : (k : ℕ) → sin_of k % p ≡ sin_of k
unfolding sin_of
sin_reduced k = Nat.mod-mod ((g ^ k + minus_one * g⁻¹ ^ k) * (half * j⁻¹)) p

pub cos_below : (k : ℕ) → cos_of k < p
unfolding cos_of
cos_below k = Nat.mod-lt ((g ^ k + g⁻¹ ^ k) * half) above

pub sin_below : (k : ℕ) → sin_of k < p
unfolding sin_of
sin_below k = Nat.mod-lt ((g ^ k + minus_one * g⁻¹ ^ k) * (half * j⁻¹)) above

-- an equation of residues about cos or sin, as one of numbers
pub cos_only : (k n : ℕ) → cosine k ≡ of p n → cos_of k ≡ n % p
cos_only k n e = sym (cos_reduced k) ∙ mod_eq p (cos_of k) n (of_cos k ∙ e)

pub sin_only : (k n : ℕ) → sine k ≡ of p n → sin_of k ≡ n % p
sin_only k n e = sym (sin_reduced k) ∙ mod_eq p (sin_of k) n (of_sin k ∙ e)

-- products of cos and sin as residues
cos_cos : (a b : ℕ) → of p (cos_of a * cos_of b) ≡ Zp.mul (cosine a) (cosine b)
cos_cos a b = of_mul p above (cos_of a) (cos_of b) ∙ ap₂ Zp.mul (of_cos a) (of_cos b)

sin_sin : (a b : ℕ) → of p (sin_of a * sin_of b) ≡ Zp.mul (sine a) (sine b)
sin_sin a b = of_mul p above (sin_of a) (sin_of b) ∙ ap₂ Zp.mul (of_sin a) (of_sin b)

sin_cos : (a b : ℕ) → of p (sin_of a * cos_of b) ≡ Zp.mul (sine a) (cosine b)
sin_cos a b = of_mul p above (sin_of a) (cos_of b) ∙ ap₂ Zp.mul (of_sin a) (of_cos b)

pub cos_add : (a b : ℕ) → cos_of (a + b) ≡ (cos_of a * cos_of b + minus_one * (sin_of a * sin_of b)) % p
cos_add a b =
    cos_only (a + b) (cos_of a * cos_of b + minus_one * (sin_of a * sin_of b))
    (Turn.cs_add Zp 2048 turn a b
    ∙ sym (of_add p above (cos_of a * cos_of b) (minus_one * (sin_of a * sin_of b))
    ∙ ap₂ Zp.add (cos_cos a b) (of_minus (sin_of a * sin_of b) ∙ ap Zp.neg (sin_sin a b))))

pub sin_add : (a b : ℕ) → sin_of (a + b) ≡ (sin_of a * cos_of b + cos_of a * sin_of b) % p
sin_add a b =
    sin_only (a + b) (sin_of a * cos_of b + cos_of a * sin_of b)
    (Turn.sn_add Zp 2048 turn a b
    ∙ sym (of_add p above (sin_of a * cos_of b) (cos_of a * sin_of b)
    ∙ ap₂ Zp.add (sin_cos a b) (of_mul p above (cos_of a) (sin_of b) ∙ ap₂ Zp.mul (of_cos a) (of_sin b))))

pub square_sum : (a : ℕ) → (cos_of a * cos_of a + sin_of a * sin_of a) % p ≡ 1
square_sum a =
    mod_eq p (cos_of a * cos_of a + sin_of a * sin_of a) 1
    (of_add p above (cos_of a * cos_of a) (sin_of a * sin_of a) ∙ ap₂ Zp.add (cos_cos a a) (sin_sin a a)
    ∙ Turn.square_sum Zp 2048 turn a ∙ sym (of_one p above))

-- half turns and whole turns more, for cos and sin alike
module _ (F : ℕ → ℕ) (f : ℕ → Residue p) (is : (k : ℕ) → of p (F k) ≡ f k) (reduced : (k : ℕ) → F k % p ≡ F k)
    (turns : (k m : ℕ) → f (k + 2 * 2048 * m) ≡ Zp.mul (Sign.sign Zp m) (f k)) where
  half_turn_more : (k : ℕ) → F (k + 4096) ≡ minus_one * F k % p
  half_turn_more k =
      sym (reduced (k + 4096))
      ∙ mod_eq p (F (k + 4096)) (minus_one * F k)
      (is (k + 4096) ∙ turns k 1 ∙ ap (λ (x : Residue p). Zp.mul x (f k)) (Sign.sign_odd Zp 0)
      ∙ Ring.neg_mul Zp Zp.one (f k) ∙ ap Zp.neg (Zp.one_mul (f k) ∙ sym (is k)) ∙ sym (of_minus (F k)))

  whole_turns_more : (k t : ℕ) → F (k + 8192 * t) ≡ F k
  whole_turns_more k t =
      let h : k + 8192 * t ≡ k + 2 * 2048 * (2 * t) = omega arith in
      sym (reduced (k + 8192 * t))
      ∙ mod_eq p (F (k + 8192 * t)) (F k)
      (is (k + 8192 * t) ∙ ap f h ∙ turns k (2 * t) ∙ ap (λ (x : Residue p). Zp.mul x (f k)) (Sign.sign_even Zp t)
      ∙ Zp.one_mul (f k) ∙ sym (is k))
      ∙ reduced k

pub cos_half_turn : (k : ℕ) → cos_of (k + 4096) ≡ minus_one * cos_of k % p
cos_half_turn = half_turn_more cos_of cosine of_cos cos_reduced (Turn.cs_turns Zp 2048 turn)

pub sin_half_turn : (k : ℕ) → sin_of (k + 4096) ≡ minus_one * sin_of k % p
sin_half_turn = half_turn_more sin_of sine of_sin sin_reduced (Turn.sn_turns Zp 2048 turn)

pub cos_turn_is : (k t : ℕ) → cos_of (k + 8192 * t) ≡ cos_of k
cos_turn_is = whole_turns_more cos_of cosine of_cos cos_reduced (Turn.cs_turns Zp 2048 turn)

pub sin_turn_is : (k t : ℕ) → sin_of (k + 8192 * t) ≡ sin_of k
sin_turn_is = whole_turns_more sin_of sine of_sin sin_reduced (Turn.sn_turns Zp 2048 turn)

pub sin_is_cos : (k : ℕ) → sin_of k ≡ cos_of (k + 6144)
sin_is_cos k =
    sin_only k (cos_of (k + 6144)) (Turn.sn_is_cs Zp 2048 turn k ∙ sym (of_cos (k + 6144))) ∙ cos_reduced (k + 6144)

-- the divisions of the definitions are divisions: twice cos is g^k + g^−k, and 2j times sin is g^k − g^−k
pub cos_divided : (k : ℕ) → 2 * cos_of k % p ≡ (g ^ k + g⁻¹ ^ k) % p
unfolding cos_of
cos_divided k =
    let e : 2 * ((g ^ k + g⁻¹ ^ k) * half) ≡ (2 * half) * (g ^ k + g⁻¹ ^ k) = omega arith in
    mul_mod 2 ((g ^ k + g⁻¹ ^ k) * half) p ∙ ap (λ (x : ℕ). x % p) e ∙ sym (mod_mul (2 * half) (g ^ k + g⁻¹ ^ k) p)
    ∙ ap (λ (x : ℕ). x % p) (Nat.one-mul (g ^ k + g⁻¹ ^ k))

pub sin_divided : (k : ℕ) → 2 * j * sin_of k % p ≡ (g ^ k + minus_one * g⁻¹ ^ k) % p
unfolding sin_of
sin_divided k =
    let e : 2 * j * ((g ^ k + minus_one * g⁻¹ ^ k) * (half * j⁻¹)) ≡ j * j⁻¹ * ((2 * half) * (g ^ k + minus_one * g⁻¹ ^ k)) = omega arith in
    mul_mod (2 * j) ((g ^ k + minus_one * g⁻¹ ^ k) * (half * j⁻¹)) p ∙ ap (λ (x : ℕ). x % p) e
    ∙ sym (mod_mul (j * j⁻¹) ((2 * half) * (g ^ k + minus_one * g⁻¹ ^ k)) p)
    ∙ ap (λ (x : ℕ). x * ((2 * half) * (g ^ k + minus_one * g⁻¹ ^ k)) % p) j_inverse
    ∙ ap (λ (x : ℕ). x % p) (Nat.one-mul ((2 * half) * (g ^ k + minus_one * g⁻¹ ^ k)))
    ∙ sym (mod_mul (2 * half) (g ^ k + minus_one * g⁻¹ ^ k) p) ∙ ap (λ (x : ℕ). x % p) (Nat.one-mul (g ^ k + minus_one * g⁻¹ ^ k))

-- g^−a is g^b where a + b is a number of whole turns
pub inverse_power : (a b t : ℕ) → a + b ≡ 8192 * t → g⁻¹ ^ a % p ≡ g ^ b % p
inverse_power a b t e =
    let turns : a + b ≡ 2 * 2048 * (2 * t) = omega arith in
    sym (mod_eq p (g ^ b) (g⁻¹ ^ a)
    (of_pow p above g b ∙ ap (λ (x : Residue p). Ring.pow Zp x b) (sym turn_root)
    ∙ Turn.back_only Zp 2048 turn a (Turn.forth Zp 2048 turn b)
    (sym (Ring.pow_add Zp turn.root a b) ∙ ap (Turn.forth Zp 2048 turn) turns ∙ Turn.forth_turns Zp 2048 turn (2 * t) ∙ Sign.sign_even Zp t)
    ∙ ap (λ (x : Residue p). Ring.pow Zp x a) turn_inverse ∙ sym (of_pow p above g⁻¹ a)))

pub sin_quarter_more : (k : ℕ) → sin_of (k + 2048) ≡ cos_of k
sin_quarter_more k =
    sin_only (k + 2048) (cos_of k) (Turn.sn_quarter_more Zp 2048 turn k ∙ sym (of_cos k)) ∙ cos_reduced k

-- −a is whole turns less a: its cosine is that of a, and its sine the negative
pub cos_opposite : (a b t : ℕ) → a + b ≡ 8192 * t → cos_of b ≡ cos_of a
cos_opposite a b t e =
    let turns : a + b ≡ 2 * 2048 * (2 * t) = omega arith in
    cos_only b (cos_of a)
    (Turn.cs_mirror Zp 2048 turn a b (2 * t) turns ∙ ap (λ (x : Residue p). Zp.mul x (cosine a)) (Sign.sign_even Zp t) ∙ Zp.one_mul (cosine a)
    ∙ sym (of_cos a))
    ∙ cos_reduced a

pub sin_opposite : (a b t : ℕ) → a + b ≡ 8192 * t → sin_of b ≡ minus_one * sin_of a % p
sin_opposite a b t e =
    let turns : a + b ≡ 2 * 2048 * (2 * t) = omega arith in
    sin_only b (minus_one * sin_of a)
    (Turn.sn_mirror Zp 2048 turn a b (2 * t) turns ∙ ap (λ (x : Residue p). Zp.neg (Zp.mul x (sine a))) (Sign.sign_even Zp t)
    ∙ ap Zp.neg (Zp.one_mul (sine a) ∙ sym (of_sin a)) ∙ sym (of_minus (sin_of a)))

-- a quarter of a turn less a has the sine of a as its cosine
pub cos_quarter_less : (a b : ℕ) → a + b ≡ 2048 → cos_of b ≡ sin_of a
cos_quarter_less a b e =
    cos_only b (sin_of a) (Turn.cs_quarter Zp 2048 turn a b e ∙ sym (of_sin a)) ∙ sin_reduced a

-- half a turn less a has the same sine
pub sin_mirror : (a b : ℕ) → a + b ≡ 4096 → sin_of b ≡ sin_of a
sin_mirror a b e =
    sin_only b (sin_of a)
    (Turn.sn_mirror Zp 2048 turn a b 1 e ∙ ap (λ (x : Residue p). Zp.neg (Zp.mul x (sine a))) (Sign.sign_odd Zp 0)
    ∙ ap Zp.neg (Ring.neg_mul Zp Zp.one (sine a)) ∙ Ring.neg_neg Zp (Zp.mul Zp.one (sine a)) ∙ Zp.one_mul (sine a) ∙ sym (of_sin a))
    ∙ sin_reduced a
