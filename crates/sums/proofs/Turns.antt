-- Angles counted in entries of a table: k/n of a turn, where n goes into the turn of 8192 units, and so is not 0 and at most 8192 (turn_positive, turn_bound).
-- Whole turns more change nothing (cos_whole_turns, cos_remainder, sin_remainder), and the sine stands three quarters of a turn further on (sin_at).
-- Where two angles are a quarter of a turn together, the one's cosine is the other's sine (cos_quarter).
-- An angle a/d of a turn is a times as many entries as 1/d of a turn has (cos_units_is, sin_units_is). A power of two goes into the turn (power_whole).
-- At odd quarters of a turn the sine is 1 and −1 by turns (sin_even_quarter, sin_odd_quarter). Assumes nothing.
use mathlib.Core.Path.{◌≡◌, sym, ◌∙◌, ap, ap₂}
use Prim.Native.Nat.{ℕ, ◌+◌, ◌*◌, ◌-◌, ◌^◌, ◌%◌, ◌/◌, ◌<◌, ◌≤◌}
use native.Mathlib.Nat as Nat
use native.Mathlib.Omega.{arith}
use lib.Pow.{pow_pos, pow-add}
use Rattle.ring.proofs.Factor.{factor_positive, factor_bound}
use Rattle.sums.specs.Residue.{p, half, minus_one, g, g⁻¹}
use Rattle.sums.specs.Angle.{cos_of, sin_of, cos_turn, sin_turn}
use Rattle.sums.proofs.Angles.{cos_turn_is, sin_turn_is, sin_half_turn, sin_quarter_more, sin_is_cos, cos_quarter_less}

module _ (n : ℕ) (whole : 8192 / n * n ≡ 8192) where
  pub turn_positive : 0 < n
  turn_positive = factor_positive (8192 / n) n 8192 whole (omega arith)

  pub turn_bound : n ≤ 8192
  turn_bound = factor_bound (8192 / n) n 8192 whole (omega arith)

  -- b is a and t whole turns, of a function that whole turns of 8192 units leave alone
  module _ (F : ℕ → ℕ) (turned : (k t : ℕ) → F (k + 8192 * t) ≡ F k) where
    whole_turns : (a b t : ℕ) → b ≡ a + n * t → F (b * (8192 / n)) ≡ F (a * (8192 / n))
    whole_turns a b t more =
        ap F (ap (λ (x : ℕ). x * (8192 / n)) more ∙ turns n t (8192 / n) whole) ∙ turned (a * (8192 / n)) t
      where
        turns : (n t s : ℕ) → s * n ≡ 8192 → (a + n * t) * s ≡ a * s + 8192 * t
        turns n t s whole = omega (arith, ap (λ (x : ℕ). x * t) whole)

    remainder : (a : ℕ) → F (a % n * (8192 / n)) ≡ F (a * (8192 / n))
    remainder a = sym (whole_turns (a % n) a (a / n) (sym (Nat.mod-add-div a n)))

  pub cos_whole_turns : (a b t : ℕ) → b ≡ a + n * t → cos_turn b n ≡ cos_turn a n
  cos_whole_turns = whole_turns cos_of cos_turn_is

  pub cos_remainder : (a : ℕ) → cos_turn (a % n) n ≡ cos_turn a n
  cos_remainder = remainder cos_of cos_turn_is

  pub sin_remainder : (a : ℕ) → sin_turn (a % n) n ≡ sin_turn a n
  sin_remainder = remainder sin_of sin_turn_is

  -- at and t whole turns are three quarters of a turn beyond k
  pub sin_at : (k at t : ℕ) → n % 4 ≡ 0 → at + n * t ≡ k + n / 4 * 3 → sin_turn k n ≡ cos_turn at n
  sin_at k at t quarters further =
      sin_is_cos (k * (8192 / n)) ∙ ap cos_of (sym (three k (n / 4) (8192 / n) quarter)) ∙ cos_whole_turns at (k + n / 4 * 3) t (sym further)
    where
      quarter : 8192 / n * (4 * (n / 4)) ≡ 8192
      quarter = ap (λ (x : ℕ). 8192 / n * x) (omega arith) ∙ whole

      three : (k q s : ℕ) → s * (4 * q) ≡ 8192 → (k + q * 3) * s ≡ k * s + 6144
      three k q s quarter = omega (arith, quarter)

  -- a and b are a quarter of a turn together
  pub cos_quarter : (a b q : ℕ) → 4 * q ≡ n → a + b ≡ q → cos_turn b n ≡ sin_turn a n
  cos_quarter a b q quarter together =
      cos_quarter_less (a * (8192 / n)) (b * (8192 / n))
      (units q (8192 / n) (ap (λ (x : ℕ). 8192 / n * x) quarter ∙ whole) together)
    where
      units : (q s : ℕ) → s * (4 * q) ≡ 8192 → a + b ≡ q → a * s + b * s ≡ 2048
      units q s whole together = omega (arith, ap (λ (x : ℕ). x * s) together)

  -- 1/d of a turn is unit entries
  module _ (unit d : ℕ) (parts : unit * d ≡ n) where
    unit_is : 8192 / d ≡ unit * (8192 / n)
    unit_is = Nat.div-eq_of_eq-mul_left (factor_positive (unit * (8192 / n)) d 8192 turn (omega arith)) (sym turn)
      where
        regroup : (u s d : ℕ) → u * s * d ≡ s * (u * d)
        regroup u s d = omega arith

        turn : unit * (8192 / n) * d ≡ 8192
        turn = regroup unit (8192 / n) d ∙ ap (λ (x : ℕ). 8192 / n * x) parts ∙ whole

    scaled : (a : ℕ) → a * (8192 / d) ≡ a * unit * (8192 / n)
    scaled a = ap (λ (x : ℕ). a * x) unit_is ∙ sym (Nat.mul_assoc a unit (8192 / n))

    pub cos_units_is : (a : ℕ) → cos_turn a d ≡ cos_turn (a * unit) n
    cos_units_is a = ap cos_of (scaled a)

    pub sin_units_is : (a : ℕ) → sin_turn a d ≡ sin_turn (a * unit) n
    sin_units_is a = ap sin_of (scaled a)

-- a power of two goes into the turn
pub power_whole : (m : ℕ) → m ≤ 13 → 8192 / 2 ^ m * 2 ^ m ≡ 8192
power_whole m h =
    let e : 13 - m + m ≡ 13 = omega arith in
    let whole : 2 ^ (13 - m) * 2 ^ m ≡ 8192 = sym (pow-add 2 (13 - m) m) ∙ ap (λ (x : ℕ). 2 ^ x) e in
    ap (λ (x : ℕ). x * 2 ^ m) (Nat.div-eq_of_eq-mul_left (pow_pos m) (sym whole)) ∙ whole

cos_nought : cos_of 0 ≡ 1
unfolding cos_of
cos_nought = ap₂ (λ (x y : ℕ). (x + y) * half % p) (Nat.pow-zero g) (Nat.pow-zero g⁻¹)

sin_quarter : sin_of 2048 ≡ 1
sin_quarter = sin_quarter_more 0 ∙ cos_nought

pub sin_even_quarter : (k : ℕ) → k % 2 ≡ 0 → sin_turn (2 * k + 1) 4 ≡ 1
sin_even_quarter k even =
    let turns : (2 * k + 1) * 2048 ≡ 2048 + 8192 * (k / 2) = omega arith in
    ap sin_of turns ∙ sin_turn_is 2048 (k / 2) ∙ sin_quarter

pub sin_odd_quarter : (k : ℕ) → (k % 2 ≡ 0 → ⊥) → sin_turn (2 * k + 1) 4 ≡ minus_one
sin_odd_quarter k odd =
    let turns : (2 * k + 1) * 2048 ≡ 6144 + 8192 * (k / 2) = omega arith in
    ap sin_of turns ∙ sin_turn_is 6144 (k / 2) ∙ sin_half_turn 2048 ∙ ap (λ (x : ℕ). minus_one * x % p) sin_quarter
