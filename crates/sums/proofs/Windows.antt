-- Both windows of document 01 are accepted at every allowed N = 2^m; and the test of acceptance says what its two rules say. Assumes nothing.
use mathlib.Core.Path.{◌≡◌, refl, sym, ◌∙◌, ap, ap₂}
use mathlib.Core.List.{List}
use Prim.Native.Nat.{ℕ, suc, ◌+◌, ◌*◌, ◌-◌, ◌^◌, ◌%◌, ◌/◌, ◌<◌, ◌≤◌}
use native.Mathlib.Nat as Nat
use native.Mathlib.Omega.{arith}
use lib.Dec.{T, eqb→eq}
use lib.Pow.{pow-add, pow_pos}
use Rattle.ring.specs.Finite.{tab}
use Rattle.ring.proofs.Ring as Ring
use Rattle.ring.proofs.Modular.{Residue, of, of_mod, of_mul, of_add, of_pow, of_one, of_eq, mod_eq}
use Rattle.ring.proofs.Table.{get_or_tab}
use Rattle.ring.proofs.Below.{both_left, both_right, both_of, eq→eqb, all_below_at, all_below_of}
use Rattle.sums.specs.Residue.{p, √2, √2⁻¹}
use Rattle.sums.specs.Angle.{sin_of, sin_turn, cos_of}
use Rattle.sums.specs.Transform.{entry}
use Rattle.sums.specs.Window.{mirrored, power_two, symmetric_window, unit_power, accepted_window, flat_window, sine_window}
use Rattle.sums.proofs.Constants.{above, Zp, √2_square, √2⁻¹_square}
use Rattle.sums.proofs.Angles.{sin_mirror, sin_quarter_more, square_sum}

-- the two rules of document 01
pub record Accepted (N : ℕ) (w : List ℕ) : Type 0 where
  pub symmetric : (n k : ℕ) → n + suc k ≡ 2 * N → entry w n ≡ entry w k
  pub power : (n : ℕ) → n < N → N * (entry w n * entry w n + entry w (N + n) * entry w (N + n)) % p ≡ 2

pub accepted_rules : (N : ℕ) (w : List ℕ) → T (accepted_window N w) → Accepted N w
unfolding accepted_window
accepted_rules N w t =
    record {
      symmetric =
          λ n k e.
          let place : 2 * N - 1 - n ≡ k = omega arith in
          eqb→eq (entry w n) (entry w (2 * N - 1 - n)) (all_below_at (2 * N) (mirrored N w) (both_left (symmetric_window N w) (unit_power N w) t) n (omega arith))
          ∙ ap (entry w) place;
      power = λ n l. eqb→eq _ 2 (all_below_at N (power_two N w) (both_right (symmetric_window N w) (unit_power N w) t) n l);
    }

pub rules_accepted : (N : ℕ) (w : List ℕ) → Accepted N w → T (accepted_window N w)
unfolding accepted_window
rules_accepted N w r =
    both_of (symmetric_window N w) (unit_power N w)
    (all_below_of (2 * N) (mirrored N w) (λ n l. eq→eqb (entry w n) (entry w (2 * N - 1 - n)) (r.symmetric n (2 * N - 1 - n) (omega arith))))
    (all_below_of N (power_two N w) (λ n l. eq→eqb _ 2 (r.power n l)))

-- N · (1/√2)^2m = 1
root_power : (m : ℕ) → of p (2 ^ m * (√2⁻¹ ^ m * √2⁻¹ ^ m)) ≡ Zp.one
root_power m =
    of_mul p above (2 ^ m) (√2⁻¹ ^ m * √2⁻¹ ^ m)
    ∙ ap₂ Zp.mul (of_pow p above 2 m) (of_mul p above (√2⁻¹ ^ m) (√2⁻¹ ^ m) ∙ ap₂ Zp.mul (of_pow p above √2⁻¹ m) (of_pow p above √2⁻¹ m))
    ∙ ap (Zp.mul (Ring.pow Zp (of p 2) m)) (sym (Ring.pow_of_product Zp (of p √2⁻¹) (of p √2⁻¹) m))
    ∙ sym (Ring.pow_of_product Zp (of p 2) (Zp.mul (of p √2⁻¹) (of p √2⁻¹)) m)
    ∙ ap (λ (x : Residue p). Ring.pow Zp x m)
    (ap (Zp.mul (of p 2)) (sym (of_mul p above √2⁻¹ √2⁻¹)) ∙ sym (of_mul p above 2 (√2⁻¹ * √2⁻¹))
    ∙ of_eq p (2 * (√2⁻¹ * √2⁻¹)) 1 √2⁻¹_square ∙ of_one p above)
    ∙ Ring.pow_of_one Zp m

-- the rules of a window that is made by a function, where N·w_n² and N·w_{N+n}² are known as residues
made : (N : ℕ) (f : ℕ → ℕ) → ((n k : ℕ) → n + suc k ≡ 2 * N → f n % p ≡ f k % p)
    → ((n : ℕ) → n < N → of p (N * (f n * f n + f (N + n) * f (N + n))) ≡ of p 2)
    → Accepted N (tab (2 * N) (λ n. f n % p))
made N f symmetric power =
    record {
      symmetric =
          λ n k e. at n (omega arith) ∙ symmetric n k e ∙ sym (at k (omega arith));
      power =
          λ n l.
          ap₂ (λ (x y : ℕ). N * (x * x + y * y) % p) (at n (omega arith)) (at (N + n) (omega arith))
          ∙ mod_eq p (N * (f n % p * (f n % p) + f (N + n) % p * (f (N + n) % p))) 2
          (of_power (f n % p) (f (N + n) % p) ∙ ap₂ (λ (x y : Residue p). Zp.mul (of p N) (Zp.add (Zp.mul x x) (Zp.mul y y))) (of_mod p (f n)) (of_mod p (f (N + n)))
          ∙ sym (of_power (f n) (f (N + n))) ∙ power n l);
    }
  where
    at : (n : ℕ) → n < 2 * N → entry (tab (2 * N) (λ n. f n % p)) n ≡ f n % p
    at n l = get_or_tab (2 * N) (λ n. f n % p) n 0 l

    of_power : (x y : ℕ) → of p (N * (x * x + y * y)) ≡ Zp.mul (of p N) (Zp.add (Zp.mul (of p x) (of p x)) (Zp.mul (of p y) (of p y)))
    of_power x y =
        of_mul p above N (x * x + y * y)
        ∙ ap (Zp.mul (of p N)) (of_add p above (x * x) (y * y) ∙ ap₂ Zp.add (of_mul p above x x) (of_mul p above y y))

pub flat_accepted : (m : ℕ) → T (accepted_window (2 ^ m) (flat_window m))
unfolding flat_window
flat_accepted m =
    rules_accepted (2 ^ m) (flat_window m)
    (made (2 ^ m) (λ n. √2⁻¹ ^ m) (λ n k e. refl)
    (λ n l.
    let e : 2 ^ m * (√2⁻¹ ^ m * √2⁻¹ ^ m + √2⁻¹ ^ m * √2⁻¹ ^ m) ≡ 2 * (2 ^ m * (√2⁻¹ ^ m * √2⁻¹ ^ m)) = omega arith in
    ap (of p) e ∙ of_mul p above 2 (2 ^ m * (√2⁻¹ ^ m * √2⁻¹ ^ m)) ∙ ap (Zp.mul (of p 2)) (root_power m) ∙ Ring.mul_one Zp (of p 2)))

-- the unit of the sine window's angles: with N = 2^m, 2N of them are a quarter turn
unit : (m : ℕ) → m ≤ 10 → 8192 / (8 * 2 ^ m) * 2 ^ m ≡ 1024
unit m h =
    let exponents : 10 - m + m ≡ 10 = omega arith in
    let whole : 2 ^ (10 - m) * 2 ^ m ≡ 1024 = sym (pow-add 2 (10 - m) m) ∙ ap (λ (x : ℕ). 2 ^ x) exponents in
    let times : 8192 ≡ 2 ^ (10 - m) * (8 * 2 ^ m) = omega arith in
    let positive : 0 < 8 * 2 ^ m = omega (arith, pow_pos m) in
    ap (λ (x : ℕ). x * 2 ^ m) (Nat.div-eq_of_eq-mul_left positive times) ∙ whole

module _ (m : ℕ) (small : m ≤ 10) where
  u : ℕ
  u = 8192 / (8 * 2 ^ m)

  -- √2 · (1/√2)^m, whose square times N is 2
  factor : ℕ
  factor = √2 * √2⁻¹ ^ m

  factor_power : of p (2 ^ m * (factor * factor)) ≡ of p 2
  unfolding factor
  factor_power =
      let e : 2 ^ m * (√2 * √2⁻¹ ^ m * (√2 * √2⁻¹ ^ m)) ≡ √2 * √2 * (2 ^ m * (√2⁻¹ ^ m * √2⁻¹ ^ m)) = omega arith in
      ap (of p) e ∙ of_mul p above (√2 * √2) (2 ^ m * (√2⁻¹ ^ m * √2⁻¹ ^ m)) ∙ ap (Zp.mul (of p (√2 * √2))) (root_power m)
      ∙ Ring.mul_one Zp (of p (√2 * √2)) ∙ of_eq p (√2 * √2) 2 √2_square

  symmetric : (n k : ℕ) → n + suc k ≡ 2 * 2 ^ m → sin_of ((2 * n + 1) * u) * factor % p ≡ sin_of ((2 * k + 1) * u) * factor % p
  unfolding u
  symmetric n k e =
      let turns : (2 * k + 1) * u + (2 * n + 1) * u ≡ 4096 = omega (arith, ap (λ (x : ℕ). 2 * u * x) e, unit m small) in
      ap (λ (x : ℕ). x * factor % p) (sin_mirror ((2 * k + 1) * u) ((2 * n + 1) * u) turns)

  powers : (n : ℕ) → n < 2 ^ m
      → of p (2 ^ m * (sin_of ((2 * n + 1) * u) * factor * (sin_of ((2 * n + 1) * u) * factor)
      + sin_of ((2 * (2 ^ m + n) + 1) * u) * factor * (sin_of ((2 * (2 ^ m + n) + 1) * u) * factor)))
      ≡ of p 2
  unfolding u
  powers n l =
      let a : ℕ = (2 * n + 1) * u in
      let turns : (2 * (2 ^ m + n) + 1) * u ≡ a + 2048 = omega (arith, unit m small) in
      let cosine : sin_of ((2 * (2 ^ m + n) + 1) * u) ≡ cos_of a = ap sin_of turns ∙ sin_quarter_more a in
      let gathered :
      2 ^ m * (sin_of a * factor * (sin_of a * factor) + cos_of a * factor * (cos_of a * factor))
      ≡ 2 ^ m * (factor * factor) * (cos_of a * cos_of a + sin_of a * sin_of a) =
      omega arith in
      ap (λ (x : ℕ). of p (2 ^ m * (sin_of a * factor * (sin_of a * factor) + x * factor * (x * factor)))) cosine
      ∙ ap (of p) gathered ∙ of_mul p above (2 ^ m * (factor * factor)) (cos_of a * cos_of a + sin_of a * sin_of a)
      ∙ ap₂ Zp.mul factor_power (of_eq p (cos_of a * cos_of a + sin_of a * sin_of a) 1 (square_sum a) ∙ of_one p above)
      ∙ Ring.mul_one Zp (of p 2)

  pub sine_accepted : T (accepted_window (2 ^ m) (sine_window m))
  unfolding sine_window u factor
  sine_accepted = rules_accepted (2 ^ m) (sine_window m) (made (2 ^ m) (λ n. sin_turn (2 * n + 1) (8 * 2 ^ m) * (√2 * √2⁻¹ ^ m)) symmetric powers)
