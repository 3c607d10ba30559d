-- DCT-II and DCT-III of one and of two entries, as the residue code computes them. Assumes nothing.
use mathlib.Core.Path.{◌≡◌, refl, sym, ◌∙◌, ap, ap₂}
use mathlib.Core.List.{List, [], ◌∷◌}
use Prim.Native.Nat.{ℕ, zero, suc, ◌+◌, ◌*◌, ◌%◌, ◌<◌}
use native.Mathlib.Nat as Nat
use native.Mathlib.Omega.{arith}
use lib.ListN.{length}
use Rattle.ring.specs.Finite.{tab}
use Rattle.ring.proofs.Ring as Ring
use Rattle.ring.proofs.Sign as Sign
use Rattle.ring.proofs.Solve.{ring, var, ◌:+◌, ◌:*◌, :-◌}
use Rattle.ring.proofs.Sum as Sum
use Rattle.ring.proofs.Table.{is_tab}
use Rattle.ring.proofs.Turn as Turn
use Rattle.ring.proofs.Modular.{Residue, of, of_mod}
use Rattle.sums.specs.Residue.{p, half, minus_one, Residues}
use Rattle.sums.specs.Angle.{cos_turn}
use Rattle.sums.specs.Transform.{entry, outputs, dct2_sum, dct3_sum}
use Rattle.sums.proofs.Constants.{Zp}
use Rattle.sums.proofs.Lengths.{Length, turn_at, half_at, cos_at}
use Rattle.sums.proofs.Inverse.{of_dct2, of_dct3}
use Rattle.sums.proofs.Outputs.{residues, outputs_only}
use Rattle.algorithms.specs.Residues.{residue_ops}
use Rattle.algorithms.proofs.Carried.{of_sum, of_difference, of_product}

-- one entry
single : Length 1
single = record { step = 2048; whole = refl }

-- two: a half turn is four units
pair : Length 2
pair = record { step = 1024; whole = refl }

abbrev c : ℕ → Residue p
c = Turn.cs Zp 2 (turn_at 2 pair)

three : c 3 ≡ Zp.neg (c 1)
three =
    Turn.cs_mirror Zp 2 (turn_at 2 pair) 1 3 1 refl
    ∙ ap (λ (s : Residue p). Zp.mul s (c 1)) (Sign.sign_odd Zp 0) ∙ Ring.neg_mul Zp Zp.one (c 1) ∙ ap Zp.neg (Zp.one_mul (c 1))

sum_one : (f : ℕ → Residue p) → Sum.sum Zp 1 f ≡ f 0
sum_one f = Sum.sum_suc Zp 0 f ∙ ap (λ (v : Residue p). Zp.add v (f 0)) (Sum.sum_zero Zp f) ∙ Zp.nought_add (f 0)

sum_two : (f : ℕ → Residue p) → Sum.sum Zp 2 f ≡ Zp.add (f 0) (f 1)
sum_two f = Sum.sum_suc Zp 1 f ∙ ap (λ (v : Residue p). Zp.add v (f 1)) (sum_one f)

-- the first or the second
abbrev either : ℕ → ℕ → ℕ → ℕ
either a b zero = a
either a b (suc k) = b

-- a list of one or of two outputs is known by the residues of its entries
module _ (z : List ℕ) (n : ℕ) (f : ℕ → ℕ) (is : z ≡ outputs n f) where
  one_output : n ≡ 1 → (a : ℕ) → of p (entry z 0) ≡ of p (a % p) → z ≡ a % p ∷ []
  unfolding tab
  one_output e a same =
      outputs_only z n f (λ k. a) is (λ k l. let first : k ≡ 0 = omega arith in ap (λ (k : ℕ). of p (entry z k)) first ∙ same ∙ of_mod p a)
      ∙ ap (λ (m : ℕ). outputs m (λ k. a)) e

  two_outputs : n ≡ 2 → (a b : ℕ) → of p (entry z 0) ≡ of p (a % p) → of p (entry z 1) ≡ of p (b % p) → z ≡ a % p ∷ b % p ∷ []
  unfolding tab
  two_outputs e a b first second = outputs_only z n f (either a b) is by ∙ ap (λ (m : ℕ). outputs m (either a b)) e
    where
      by : (k : ℕ) → k < n → of p (entry z k) ≡ of p (either a b k)
      by zero l = first ∙ of_mod p a
      by (suc k) l = let last : suc k ≡ 1 = omega arith in ap (λ (k : ℕ). of p (entry z k)) last ∙ second ∙ of_mod p b

module _ (x : List ℕ) where
  pub dct2_single : length x ≡ 1 → Residues x → dct2_sum x ≡ x
  unfolding dct2_sum tab
  dct2_single N sound =
      one_output (dct2_sum x) (length x) _ refl N (entry x 0)
      (of_dct2 0 single x N 0 (omega arith) ∙ sum_one _ ∙ ap (Zp.mul (residues x 0)) (Turn.cs_zero Zp 1 (turn_at 1 single)) ∙ Ring.mul_one Zp (residues x 0)
      ∙ sym (of_mod p (entry x 0)))
      ∙ sym (is_tab 0 x 1 N
      (λ k l. let first : k ≡ 0 = omega arith in ap (entry x) first ∙ sym (Nat.mod-eq_of_lt (sound.below 0 (omega arith)))))

  pub dct2_pair : length x ≡ 2
      → dct2_sum x ≡ ((entry x 0 + entry x 1) % p) ∷ ((entry x 0 + minus_one * entry x 1) % p * cos_turn 1 8 % p) ∷ []
  unfolding dct2_sum
  dct2_pair N =
      two_outputs (dct2_sum x) (length x) _ refl N (entry x 0 + entry x 1) ((entry x 0 + minus_one * entry x 1) % p * cos_turn 1 8)
      (of_dct2 1 pair x N 0 (omega arith) ∙ sum_two _
      ∙ ap₂ Zp.add (no_angle 0) (no_angle 1) ∙ sym (of_sum (entry x 0) (entry x 1) refl refl))
      (of_dct2 1 pair x N 1 (omega arith) ∙ sum_two _
      ∙ ap (λ (v : Residue p). Zp.add (Zp.mul (residues x 0) (c 1)) (Zp.mul (residues x 1) v)) three
      ∙ ring Zp (residues x 0 ∷ residues x 1 ∷ c 1 ∷ []) (var 0 :* var 2 :+ var 1 :* :- var 2) ((var 0 :+ :- var 1) :* var 2) tt
      ∙ sym (of_product (residue_ops.sub (entry x 0) (entry x 1)) (cos_turn 1 8) (of_difference (entry x 0) (entry x 1) refl refl) (cos_at 2 pair 1)))
    where
      no_angle : (i : ℕ) → Zp.mul (residues x i) (c (0 * (2 * i + 1))) ≡ residues x i
      no_angle i =
          ap (λ (a : ℕ). Zp.mul (residues x i) (c a)) (Nat.zero-mul (2 * i + 1))
          ∙ ap (Zp.mul (residues x i)) (Turn.cs_zero Zp 2 (turn_at 2 pair)) ∙ Ring.mul_one Zp (residues x i)

  pub dct3_single : length x ≡ 1 → dct3_sum x ≡ (entry x 0 * half % p) ∷ []
  unfolding dct3_sum
  dct3_single N =
      one_output (dct3_sum x) (length x) _ refl N (entry x 0 * half)
      (of_dct3 0 single x N 0 (omega arith)
      ∙ ap₂ (λ (h v : Residue p). Zp.add (Zp.mul (residues x 0) h) v) (half_at 1 single) (Sum.sum_zero Zp _)
      ∙ Ring.add_nought Zp (Zp.mul (residues x 0) (of p half)) ∙ sym (of_product (entry x 0) half refl refl))

  pub dct3_pair : length x ≡ 2
      → dct3_sum x
      ≡ ((entry x 0 * half % p + entry x 1 * cos_turn 1 8 % p) % p)
      ∷ ((entry x 0 * half % p + minus_one * (entry x 1 * cos_turn 1 8 % p)) % p) ∷ []
  unfolding dct3_sum
  dct3_pair N =
      two_outputs (dct3_sum x) (length x) _ refl N (entry x 0 * half % p + entry x 1 * cos_turn 1 8 % p)
      (entry x 0 * half % p + minus_one * (entry x 1 * cos_turn 1 8 % p))
      (terms 0 (omega arith) ∙ sym (of_sum _ _ halved product))
      (terms 1 (omega arith)
      ∙ ap (Zp.add (Zp.mul (residues x 0) (of p half)))
      (ap (Zp.mul (residues x 1)) three ∙ Ring.mul_neg Zp (residues x 1) (c 1))
      ∙ sym (of_difference _ _ halved product))
    where
      terms : (k : ℕ) → k < 2
          → of p (entry (dct3_sum x) k) ≡ Zp.add (Zp.mul (residues x 0) (of p half)) (Zp.mul (residues x 1) (c (1 * (2 * k + 1))))
      terms k l =
          of_dct3 1 pair x N k l
          ∙ ap₂ (λ (h v : Residue p). Zp.add (Zp.mul (residues x 0) h) v) (half_at 2 pair) (sum_one _)

      halved : of p (residue_ops.mul (entry x 0) half) ≡ Zp.mul (residues x 0) (of p half)
      halved = of_product (entry x 0) half refl refl

      product : of p (residue_ops.mul (entry x 1) (cos_turn 1 8)) ≡ Zp.mul (residues x 1) (c 1)
      product = of_product (entry x 1) (cos_turn 1 8) refl (cos_at 2 pair 1)
