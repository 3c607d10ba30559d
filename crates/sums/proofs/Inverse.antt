-- DCT-III of DCT-II is N/2 times the input, at every allowed length. Assumes nothing.
use mathlib.Core.Path.{◌≡◌, refl, sym, ◌∙◌, ap, ap₂, subst}
use mathlib.Core.List.{List}
use Prim.Native.Nat.{ℕ, suc, pred, ◌+◌, ◌*◌, ◌-◌, ◌^◌, ◌<◌, ◌≤◌}
use native.Mathlib.Nat as Nat
use native.Mathlib.Omega.{arith}
use lib.ListN.{length}
use lib.Pow.{pow_pos}
use Rattle.ring.proofs.Ring as Ring
use Rattle.ring.proofs.Turn as Turn
use Rattle.ring.proofs.Sum as Sum
use Rattle.ring.proofs.Inverse as Inverse
use Rattle.ring.proofs.Modular.{Residue, of, of_add, of_mul, of_num}
use Rattle.sums.specs.Residue.{p, half}
use Rattle.sums.specs.Angle.{cos_turn}
use Rattle.sums.specs.Transform.{sum, entry, outputs, dct2_sum, dct3_sum, times_half_length}
use Rattle.sums.proofs.Constants.{above, Zp}
use Rattle.sums.proofs.Outputs.{residues, of_output, outputs_only, length_dct2}
use Rattle.sums.proofs.Lengths.{Length, power_length, turn_at, half_at, cos_at, of_products}

module _ (m : ℕ) (L : Length (suc m)) (x : List ℕ) (N : length x ≡ suc m) where
  pub of_dct2 : (k : ℕ) → k < suc m → of p (entry (dct2_sum x) k) ≡ Inverse.dct2_at Zp m (turn_at (suc m) L) (residues x) k
  unfolding dct2_sum
  of_dct2 k l =
      ap (λ (n : ℕ). of p (entry (outputs n (λ k. sum n (λ i. entry x i * cos_turn (k * (2 * i + 1)) (4 * n)))) k)) N
      ∙ of_output (suc m) (λ k. sum (suc m) (λ i. entry x i * cos_turn (k * (2 * i + 1)) (4 * suc m))) k l
      ∙ of_products (suc m) (entry x) (λ i. cos_turn (k * (2 * i + 1)) (4 * suc m)) _ (λ i. cos_at (suc m) L (k * (2 * i + 1)))

  pub of_dct3 : (k : ℕ) → k < suc m → of p (entry (dct3_sum x) k) ≡ Inverse.dct3_at Zp m (turn_at (suc m) L) (residues x) k
  unfolding dct3_sum
  of_dct3 k l =
      ap
      (λ (n : ℕ).
      of p (entry (outputs n (λ k. entry x 0 * half + sum (n - 1) (λ i. entry x (suc i) * cos_turn (suc i * (2 * k + 1)) (4 * n)))) k))
      N
      ∙ of_output (suc m)
      (λ k. entry x 0 * half + sum (suc m - 1) (λ i. entry x (suc i) * cos_turn (suc i * (2 * k + 1)) (4 * suc m)))
      k
      l
      ∙ of_add p above (entry x 0 * half) (sum (suc m - 1) (λ i. entry x (suc i) * cos_turn (suc i * (2 * k + 1)) (4 * suc m)))
      ∙ ap₂ Zp.add (of_mul p above (entry x 0) half ∙ ap (Zp.mul (of p (entry x 0))) (sym (half_at (suc m) L)))
      (ap (λ (n : ℕ). of p (sum n (λ i. entry x (suc i) * cos_turn (suc i * (2 * k + 1)) (4 * suc m)))) (Nat.suc-sub-suc m 0 ∙ Nat.sub-zero m)
      ∙ of_products m (λ i. entry x (suc i)) (λ i. cos_turn (suc i * (2 * k + 1)) (4 * suc m)) _
      (λ i. cos_at (suc m) L (suc i * (2 * k + 1))))

-- y is what the way there leaves of x, z what the way back leaves of y: that is x_l · N/2 where it is so over the ring, by the half of any turn
pub is_times_half_length : (n : ℕ) (L : Length n) (m : ℕ) (x y z : List ℕ) (f : ℕ → ℕ) → length x ≡ m → length y ≡ length x → z ≡ outputs (length y) f
    → ((l : ℕ) → l < m → residues z l ≡ Zp.mul (residues x l) (Zp.mul (Ring.num Zp m) (turn_at n L).half)) → z ≡ times_half_length x
unfolding times_half_length
is_times_half_length n L m x y z f N same is law =
    outputs_only z (length y) f (λ l. length x * half * entry x l) is (λ l b. law l (omega arith) ∙ scaled l)
    ∙ ap (λ (n : ℕ). outputs n (λ l. length x * half * entry x l)) same
  where
    scaled : (l : ℕ) → Zp.mul (residues x l) (Zp.mul (Ring.num Zp m) (turn_at n L).half) ≡ of p (length x * half * entry x l)
    scaled l =
        Zp.mul_comm (residues x l) (Zp.mul (Ring.num Zp m) (turn_at n L).half)
        ∙ ap₂ (λ (a c : Residue p). Zp.mul (Zp.mul a c) (residues x l)) (sym (of_num p above m) ∙ ap (of p) (sym N)) (half_at n L)
        ∙ sym (of_mul p above (length x * half) (entry x l) ∙ ap (λ (a : Residue p). Zp.mul a (residues x l)) (of_mul p above (length x) half))

module _ (m e : ℕ) (power : suc m ≡ 2 ^ e) (L : Length (suc m)) (x : List ℕ) (N : length x ≡ suc m) where
  there_and_back : (l : ℕ) → l < suc m
      → residues (dct3_sum (dct2_sum x)) l ≡ Zp.mul (residues x l) (Zp.mul (Ring.num Zp (suc m)) (turn_at (suc m) L).half)
  there_and_back l b =
      of_dct3 m L (dct2_sum x) (length_dct2 x ∙ N) l b
      ∙ ap₂ (λ (a c : Residue p). Zp.add (Zp.mul a W.half) c) (of_dct2 m L x N 0 (omega arith))
      (Sum.sum_ext Zp m _ _
      (λ i h. ap (λ (a : Residue p). Zp.mul a (Turn.cs Zp (suc m) W (suc i * (2 * l + 1)))) (of_dct2 m L x N (suc i) (omega arith))))
      ∙ Inverse.dct3_of_dct2 Zp m W e power (residues x) l b
    where
      W : Turn.Turn Zp (suc m)
      W = turn_at (suc m) L

  whole : dct3_sum (dct2_sum x) ≡ times_half_length x
  unfolding dct3_sum
  whole = is_times_half_length (suc m) L (suc m) x (dct2_sum x) (dct3_sum (dct2_sum x)) _ N (length_dct2 x) refl there_and_back

pub dct3_of_dct2 : (e : ℕ) → e ≤ 10 → (x : List ℕ) → length x ≡ 2 ^ e
    → dct3_sum (dct2_sum x) ≡ times_half_length x
dct3_of_dct2 e small x N =
    let next : suc (pred (2 ^ e)) ≡ 2 ^ e = Nat.suc-pred-eq_of_pos (pow_pos e) in
    whole (pred (2 ^ e)) e next (subst Length (sym next) (power_length e (omega arith))) x (N ∙ sym next)
