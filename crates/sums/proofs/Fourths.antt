-- The outputs of DCT-IV and DST-IV as sums over the ring of residues (of_dct4, of_dst4). DCT-IV of DCT-IV is N/2 times the input, at every allowed length
-- (dct4_twice), and so is DST-IV of DST-IV (dst4_twice). Assumes nothing.
use mathlib.Core.Path.{◌≡◌, refl, ◌∙◌, ap}
use mathlib.Core.List.{List}
use Prim.Native.Nat.{ℕ, suc, ◌+◌, ◌*◌, ◌^◌, ◌<◌, ◌≤◌}
use native.Mathlib.Nat as Nat
use native.Mathlib.Omega.{arith}
use lib.ListN.{length}
use Rattle.ring.proofs.Ring as Ring
use Rattle.ring.proofs.Sum as Sum
use Rattle.ring.proofs.Turn as Turn
use Rattle.ring.proofs.Fourth.{fourth_by, fourth, fourth_sine}
use Rattle.ring.proofs.Twice.{fourth_twice, fourth_sine_twice}
use Rattle.ring.proofs.Modular.{Residue, of}
use Rattle.ring.proofs.Table.{length_tab}
use Rattle.sums.specs.Residue.{p}
use Rattle.sums.specs.Angle.{cos_turn, sin_turn}
use Rattle.sums.specs.Transform.{sum, entry, outputs, dct4_sum, dst4_sum, times_half_length}
use Rattle.sums.proofs.Constants.{Zp}
use Rattle.sums.proofs.Inverse.{is_times_half_length}
use Rattle.sums.proofs.Lengths.{Length, power_length, turn_at, cos_at, sin_at, of_products}
use Rattle.sums.proofs.Outputs.{residues, of_output}

-- type 4, where f is the cosine or the sine
abbrev type4 : (ℕ → ℕ → ℕ) → List ℕ → List ℕ
type4 f x = outputs (length x) (λ k. sum (length x) (λ i. entry x i * f ((2 * i + 1) * (2 * k + 1)) (8 * length x)))

-- m entries have angles in units of 1/(8m) of a turn, those of the length n = 2m
module _ (m n : ℕ) (twice : 2 * m ≡ n) (L : Length n) where
  abbrev W : Turn.Turn Zp n
  W = turn_at n L

  -- f, and v over the ring, are the cosine or the sine
  module _ (f : ℕ → ℕ → ℕ) (v : ℕ → Residue p) (is : (a : ℕ) → of p (f a (4 * n)) ≡ v a) where
    outputs_at : (x : List ℕ) → length x ≡ m → (k : ℕ) → k < m → residues (type4 f x) k ≡ fourth_by Zp v m (residues x) k
    outputs_at x N k l =
        let turn : 8 * m ≡ 4 * n = omega arith in
        ap (λ (m : ℕ). residues (outputs m (λ k. sum m (λ i. entry x i * f ((2 * i + 1) * (2 * k + 1)) (8 * m)))) k) N
        ∙ of_output m (λ k. sum m (λ i. entry x i * f ((2 * i + 1) * (2 * k + 1)) (8 * m))) k l
        ∙ of_products m (entry x) (λ i. f ((2 * i + 1) * (2 * k + 1)) (8 * m)) _
        (λ i. ap (λ (b : ℕ). of p (f ((2 * i + 1) * (2 * k + 1)) b)) turn ∙ is ((2 * i + 1) * (2 * k + 1)))

    -- where it is so over the ring
    outputs_twice : ((x : ℕ → Residue p) (l : ℕ) → l < m → fourth_by Zp v m (fourth_by Zp v m x) l ≡ Zp.mul (x l) (Zp.mul (Ring.num Zp m) W.half))
        → (x : List ℕ) → length x ≡ m → type4 f (type4 f x) ≡ times_half_length x
    outputs_twice law x N =
        is_times_half_length n L m x (type4 f x) (type4 f (type4 f x)) _ N whole refl
        (λ l b.
        outputs_at (type4 f x) (whole ∙ N) l b
        ∙ Sum.sum_ext Zp m _ _ (λ k h. ap (λ (a : Residue p). Zp.mul a (v ((2 * k + 1) * (2 * l + 1)))) (outputs_at x N k h)) ∙ law (residues x) l b)
      where
        whole : length (type4 f x) ≡ length x
        whole = length_tab (length x) _

  pub of_dct4 : (x : List ℕ) → length x ≡ m → (k : ℕ) → k < m → residues (dct4_sum x) k ≡ fourth Zp n (turn_at n L) m (residues x) k
  unfolding dct4_sum
  of_dct4 = outputs_at cos_turn (Turn.cs Zp n W) (cos_at n L)

  pub of_dst4 : (x : List ℕ) → length x ≡ m → (k : ℕ) → k < m → residues (dst4_sum x) k ≡ fourth_sine Zp n (turn_at n L) m (residues x) k
  unfolding dst4_sum
  of_dst4 = outputs_at sin_turn (Turn.sn Zp n W) (sin_at n L)

-- at the allowed lengths, those of the angles are twice as much
module _ (e : ℕ) (small : e ≤ 10) where
  abbrev m : ℕ
  m = 2 ^ e

  abbrev n : ℕ
  n = 2 ^ suc e

  doubled : 2 * m ≡ n
  doubled = omega (arith, Nat.two-pow-succ e)

  L : Length n
  L = power_length (suc e) (omega arith)

  pub dct4_twice : (x : List ℕ) → length x ≡ 2 ^ e → dct4_sum (dct4_sum x) ≡ times_half_length x
  unfolding dct4_sum
  dct4_twice = outputs_twice m n doubled L cos_turn _ (cos_at n L) (fourth_twice Zp m n doubled (turn_at n L) e refl)

  pub dst4_twice : (x : List ℕ) → length x ≡ 2 ^ e → dst4_sum (dst4_sum x) ≡ times_half_length x
  unfolding dst4_sum
  dst4_twice = outputs_twice m n doubled L sin_turn _ (sin_at n L) (fourth_sine_twice Zp m n doubled (turn_at n L) e refl)
