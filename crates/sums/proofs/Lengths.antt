-- The turn at each length n that goes into a quarter turn, 2048: document 01's angles a/(4n) of a turn are that turn's angles a.
-- A length that goes into another has some of its angles (part_length, cs_part). And sums of products as residues. Assumes nothing.
use mathlib.Core.Path.{◌≡◌, sym, ◌∙◌, ap, subst}
use Prim.Native.Nat.{ℕ, suc, ◌+◌, ◌*◌, ◌-◌, ◌^◌, ◌/◌, ◌≤◌}
use native.Mathlib.Nat as Nat
use native.Mathlib.Omega.{arith}
use lib.Pow.{pow-add}
use Rattle.ring.proofs.Factor.{factor_positive}
use Rattle.ring.proofs.Stride as Stride
use Rattle.ring.proofs.Turn as Turn
use Rattle.ring.proofs.Turn.{Turn}
use Rattle.ring.proofs.Sum as Sum
use Rattle.ring.proofs.Modular.{Residue, of, of_mul, of_sum}
use Rattle.sums.specs.Residue.{p, half}
use Rattle.sums.specs.Angle.{cos_turn, sin_turn}
use Rattle.sums.specs.Transform.{sum}
use Rattle.sums.proofs.Constants.{above, Zp, turn, turn_half}
use Rattle.sums.proofs.Angles.{of_cos, of_sin}

-- n goes into a quarter turn
pub record Length (n : ℕ) : Type 0 where
  pub step : ℕ
  pub whole : step * n ≡ 2048

pub power_length : (m : ℕ) → m ≤ 11 → Length (2 ^ m)
power_length m h =
    let e : 11 - m + m ≡ 11 = omega arith in
    record { step = 2 ^ (11 - m); whole = sym (pow-add 2 (11 - m) m) ∙ ap (λ (x : ℕ). 2 ^ x) e }

-- type 4 and MDCT of 2^(k+1) entries have the angles of twice that length
pub type4_length : (k : ℕ) → k ≤ 9 → Length (4 * 2 ^ k)
type4_length k h =
    let four : 2 ^ suc (suc k) ≡ 4 * 2 ^ k = omega (arith, Nat.two-pow-succ k, Nat.two-pow-succ (suc k)) in
    subst Length four (power_length (suc (suc k)) (omega arith))

module _ (n : ℕ) (L : Length n) where
  pub turn_at : Turn Zp n
  turn_at = Stride.stride Zp L.step n 2048 L.whole turn

  pub half_at : turn_at.half ≡ of p half
  unfolding turn_at
  half_at = Stride.stride_half Zp L.step n 2048 L.whole turn ∙ turn_half

  step_is : 8192 / (4 * n) ≡ L.step
  step_is =
      let whole : L.step * (4 * n) ≡ 8192 = omega (arith, L.whole) in
      Nat.div-eq_of_eq-mul_left (factor_positive L.step (4 * n) 8192 whole (omega arith)) (sym whole)

  -- a turn of 4n units is a whole one
  pub turn_whole : 8192 / (4 * n) * (4 * n) ≡ 8192
  turn_whole = ap (λ (s : ℕ). s * (4 * n)) step_is ∙ omega (arith, L.whole)

  unit : (a : ℕ) → L.step * a ≡ a * (8192 / (4 * n))
  unit a = Nat.mul_comm L.step a ∙ ap (λ (x : ℕ). a * x) (sym step_is)

  pub cos_at : (a : ℕ) → of p (cos_turn a (4 * n)) ≡ Turn.cs Zp n turn_at a
  unfolding turn_at
  cos_at a =
      of_cos (a * (8192 / (4 * n)))
      ∙ sym (Stride.cs_stride Zp L.step n 2048 L.whole turn a ∙ ap (Turn.cs Zp 2048 turn) (unit a))

  pub sin_at : (a : ℕ) → of p (sin_turn a (4 * n)) ≡ Turn.sn Zp n turn_at a
  unfolding turn_at
  sin_at a =
      of_sin (a * (8192 / (4 * n)))
      ∙ sym (Stride.sn_stride Zp L.step n 2048 L.whole turn a ∙ ap (Turn.sn Zp 2048 turn) (unit a))

-- where u times n is N, an angle of length n is u angles of length N
module _ (u n N : ℕ) (parts : u * n ≡ N) (L : Length N) where
  pub part_length : Length n
  part_length = record { step = L.step * u; whole = Nat.mul_assoc L.step u n ∙ ap (λ (m : ℕ). L.step * m) parts ∙ L.whole }

  pub cs_part : (a : ℕ) → Turn.cs Zp n (turn_at n part_length) a ≡ Turn.cs Zp N (turn_at N L) (u * a)
  unfolding turn_at part_length
  cs_part a =
      Stride.cs_stride Zp (L.step * u) n 2048 part_length.whole turn a ∙ ap (Turn.cs Zp 2048 turn) (Nat.mul_assoc L.step u a)
      ∙ sym (Stride.cs_stride Zp L.step N 2048 L.whole turn (u * a))

-- a sum of products, term by term
pub of_products : (n : ℕ) (x y : ℕ → ℕ) (v : ℕ → Residue p) → ((i : ℕ) → of p (y i) ≡ v i)
    → of p (sum n (λ i. x i * y i)) ≡ Sum.sum Zp n (λ i. Zp.mul (of p (x i)) (v i))
of_products n x y v e =
    of_sum p above n (λ i. x i * y i)
    ∙ Sum.sum_ext Zp n (λ i. of p (x i * y i)) (λ i. Zp.mul (of p (x i)) (v i))
    (λ i l. of_mul p above (x i) (y i) ∙ ap (Zp.mul (of p (x i))) (e i))
