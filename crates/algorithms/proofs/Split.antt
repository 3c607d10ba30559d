-- Split radix over residues is the defining sums, at every length 2^k up to 2048: one induction for DCT-II and DCT-III, and the sines around them.
-- Assumes nothing.
use mathlib.Core.Path.{◌≡◌, refl, sym, ◌∙◌, ap, subst}
use mathlib.Core.List.{List}
use Prim.Native.Nat.{ℕ, zero, suc, ◌*◌, ◌^◌, ◌≤◌}
use native.Mathlib.Nat as Nat
use native.Mathlib.Omega.{arith}
use lib.ListN.{length}
use Rattle.sums.specs.Transform.{dct2_sum, dst2_sum, dct3_sum, dst3_sum}
use Rattle.sums.proofs.Lengths.{Length, power_length}
use Rattle.algorithms.specs.Lists.{reversed, alternated}
use Rattle.algorithms.specs.Residues.{residue_ops, residue_twiddles}
use Rattle.algorithms.specs.Split.{input_dct2, input_dct4_even, input_dct4_odd, merge_two, input_evens, input_one, input_three, merge_three, split_dct2, split_dct3, split_dst2, split_dst3}
use Rattle.algorithms.proofs.Inputs.{length_half, length_cosines, length_sines, length_evens, length_one, length_three}
use Rattle.algorithms.proofs.Lists.{length_reversed, length_alternated}
use Rattle.algorithms.proofs.Naive.{naive_dct2_is, naive_dst2_is, naive_dct3_is, naive_dst3_is}
use Rattle.algorithms.proofs.Sines.{dst2_by_dct2, dst3_by_dct3}
use Rattle.algorithms.proofs.Two.{dct2_split}
use Rattle.algorithms.proofs.Three.{dct3_split}

-- 2^(k+1) and 2^(k+2) by 2^k
twice : (k : ℕ) → 2 ^ suc k ≡ 2 * 2 ^ k
twice k = omega (arith, Nat.two-pow-succ k)

pub four_times : (k : ℕ) → 2 ^ suc (suc k) ≡ 4 * 2 ^ k
four_times k = omega (arith, twice (suc k), twice k)

-- a list of 2^k entries has a length of the angles
listed : (k : ℕ) → k ≤ 11 → (x : List ℕ) → length x ≡ 2 ^ k → Length (length x)
listed k small x N = subst Length (sym N) (power_length k small)

-- a step of the sums: those of 4q entries by those of 2q, q and q entries, which stand in three inputs
abbrev Step : (List ℕ → List ℕ) → (ℕ → List ℕ → List ℕ → List ℕ → List ℕ) → (half one other : ℕ → List ℕ → List ℕ) → Type 0
Step sums merge half one other =
    (q : ℕ) → Length (4 * q) → (x : List ℕ) → length x ≡ 4 * q → merge q (sums (half q x)) (sums (one q x)) (sums (other q x)) ≡ sums x

-- a routine that takes such a step until the leaves is the sums
module _ (sums : List ℕ → List ℕ) (merge : ℕ → List ℕ → List ℕ → List ℕ → List ℕ) (half one other : ℕ → List ℕ → List ℕ)
    (step : Step sums merge half one other)
    (length_half : (q : ℕ) (x : List ℕ) → length (half q x) ≡ 2 * q)
    (length_one : (q : ℕ) (x : List ℕ) → length (one q x) ≡ q)
    (length-other : (q : ℕ) (x : List ℕ) → length (other q x) ≡ q)
    (split : ℕ → List ℕ → List ℕ)
    (single : (x : List ℕ) → Length (length x) → split 0 x ≡ sums x)
    (pair : (x : List ℕ) → Length (length x) → split 1 x ≡ sums x)
    (more : (k : ℕ) (x : List ℕ)
    → split (suc (suc k)) x ≡ merge (2 ^ k) (split (suc k) (half (2 ^ k) x)) (split k (one (2 ^ k) x)) (split k (other (2 ^ k) x))) where
  by_steps : (k : ℕ) → k ≤ 11 → (x : List ℕ) → length x ≡ 2 ^ k → split k x ≡ sums x
  by_steps zero small x N = single x (listed 0 small x N)
  by_steps (suc zero) small x N = pair x (listed 1 small x N)
  by_steps (suc (suc k)) small x N =
      let first : split (suc k) (half (2 ^ k) x) ≡ sums (half (2 ^ k) x) = by_steps (suc k) (omega arith) (half (2 ^ k) x) (length_half (2 ^ k) x ∙ sym (twice k)) in
      let second : split k (one (2 ^ k) x) ≡ sums (one (2 ^ k) x) = by_steps k (omega arith) (one (2 ^ k) x) (length_one (2 ^ k) x) in
      let third : split k (other (2 ^ k) x) ≡ sums (other (2 ^ k) x) = by_steps k (omega arith) (other (2 ^ k) x) (length-other (2 ^ k) x) in
      more k x ∙ (λ i. merge (2 ^ k) (first i) (second i) (third i))
      ∙ step (2 ^ k) (subst Length (four_times k) (power_length (suc (suc k)) small)) x (N ∙ four_times k)

pub split_dct3_is : (k : ℕ) → k ≤ 11 → (x : List ℕ) → length x ≡ 2 ^ k → split_dct3 residue_ops residue_twiddles k x ≡ dct3_sum x
unfolding split_dct3
split_dct3_is =
    by_steps dct3_sum (merge_three residue_ops residue_twiddles) (input_evens residue_ops) (input_one residue_ops) (input_three residue_ops) dct3_split
    (length_evens residue_ops residue_twiddles) (length_one residue_ops residue_twiddles) (length_three residue_ops residue_twiddles)
    (split_dct3 residue_ops residue_twiddles) naive_dct3_is naive_dct3_is (λ k x. refl)

pub split_dst3_is : (k : ℕ) → k ≤ 11 → (x : List ℕ) → length x ≡ 2 ^ k → split_dst3 residue_ops residue_twiddles k x ≡ dst3_sum x
unfolding split_dst3
split_dst3_is zero small x N = naive_dst3_is x (listed 0 small x N)
split_dst3_is (suc zero) small x N = naive_dst3_is x (listed 1 small x N)
split_dst3_is (suc (suc k)) small x N =
    ap (alternated residue_ops) (split_dct3_is (suc (suc k)) small (reversed residue_ops x) (length_reversed residue_ops x ∙ N))
    ∙ dst3_by_dct3 x (listed (suc (suc k)) small x N)

pub split_dct2_is : (k : ℕ) → k ≤ 11 → (x : List ℕ) → length x ≡ 2 ^ k → split_dct2 residue_ops residue_twiddles k x ≡ dct2_sum x
unfolding split_dct2
split_dct2_is =
    by_steps dct2_sum (merge_two residue_ops) (input_dct2 residue_ops) (input_dct4_even residue_ops residue_twiddles) (input_dct4_odd residue_ops residue_twiddles) dct2_split
    (length_half residue_ops residue_twiddles) (length_cosines residue_ops residue_twiddles) (length_sines residue_ops residue_twiddles)
    (split_dct2 residue_ops residue_twiddles) naive_dct2_is naive_dct2_is (λ k x. refl)

pub split_dst2_is : (k : ℕ) → k ≤ 11 → (x : List ℕ) → length x ≡ 2 ^ k → split_dst2 residue_ops residue_twiddles k x ≡ dst2_sum x
unfolding split_dst2
split_dst2_is zero small x N = naive_dst2_is x (listed 0 small x N)
split_dst2_is (suc zero) small x N = naive_dst2_is x (listed 1 small x N)
split_dst2_is (suc (suc k)) small x N =
    ap (reversed residue_ops) (split_dct2_is (suc (suc k)) small (alternated residue_ops x) (length_alternated residue_ops x ∙ N))
    ∙ dst2_by_dct2 x (listed (suc (suc k)) small x N)
