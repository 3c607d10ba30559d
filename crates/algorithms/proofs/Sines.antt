-- The sines around the cosines, over residues: DST-II is DCT-II of the entries negated by turns, read backwards; DST-III is DCT-III of the entries
-- read backwards, negated by turns (of_dst3_part has its outputs over the ring of residues). Assumes nothing.
use mathlib.Core.Path.{◌≡◌, refl, sym, ◌∙◌, ap, ap₂, subst}
use mathlib.Core.List.{List}
use Prim.Native.Nat.{ℕ, zero, suc, ◌+◌, ◌*◌, ◌-◌, ◌%◌, ◌<◌}
use native.Mathlib.Nat as Nat
use native.Mathlib.Omega.{arith}
use lib.ListN.{length}
use Rattle.ring.proofs.Factor.{factor_positive}
use Rattle.ring.proofs.Sign.{sign}
use Rattle.ring.proofs.Sines.{second_sines, third_sines}
use Rattle.ring.proofs.Sum as Sum
use Rattle.ring.proofs.Table.{is_tab}
use Rattle.ring.proofs.Third.{third}
use Rattle.ring.proofs.Turn as Turn
use Rattle.ring.proofs.Modular.{of, of_add, of_mul}
use Rattle.sums.specs.Residue.{p, half}
use Rattle.sums.specs.Angle.{sin_turn}
use Rattle.sums.specs.Transform.{sum, entry, dct2_sum, dst2_sum, dct3_sum, dst3_sum}
use Rattle.sums.proofs.Constants.{above, Zp}
use Rattle.sums.proofs.Lengths.{Length, turn_at, half_at, sin_at, part_length, of_products}
use Rattle.sums.proofs.Outputs.{residues, length_dct2, dct2_residues, length_dct3, dct3_residues}
use Rattle.algorithms.specs.Lists.{reversed, turned, turned_by, alternated}
use Rattle.algorithms.specs.Residues.{residue_ops}
use Rattle.algorithms.proofs.Carried.{of_turned, of_dct2_at}
use Rattle.algorithms.proofs.Lists.{length_reversed, get_or_reversed, length_alternated, get_or_alternated}
use Rattle.algorithms.proofs.Thirds.{is_output, last_sine, of_dct3_part}

-- a reduced number stays so
pub turned_reduced : (k v : ℕ) → v % p ≡ v → turned residue_ops k v % p ≡ turned residue_ops k v
turned_reduced k v reduced = by (k % 2)
  where
    by : (r : ℕ) → turned_by residue_ops r v % p ≡ turned_by residue_ops r v
    by zero = reduced
    by (suc r) = Nat.mod-mod _ p

module _ (x : List ℕ) (L : Length (length x)) where
  abbrev n : ℕ
  n = length x

  abbrev W : Turn.Turn Zp (length x)
  W = turn_at (length x) L

  abbrev turns : List ℕ
  turns = alternated residue_ops x

  -- an output of DST-II, from the place as far from the end
  second_at : (k l : ℕ) → k + suc l ≡ n → entry (dct2_sum turns) l ≡ sum n (λ i. entry x i * sin_turn ((k + 1) * (2 * i + 1)) (4 * n)) % p
  second_at k l e =
      let whole : length (dct2_sum turns) ≡ n = length_dct2 turns ∙ length_alternated residue_ops x in
      is_output (entry (dct2_sum turns) l) (sum n (λ i. entry x i * sin_turn ((k + 1) * (2 * i + 1)) (4 * n)))
      (Nat.mod-eq_of_lt ((dct2_residues turns).below l (omega arith)))
      (of_dct2_at n L turns (length_alternated residue_ops x) l (omega arith)
      ∙ second_sines Zp n W (residues x) (residues turns) (λ i b. ap (of p) (get_or_alternated residue_ops x i 0 b) ∙ of_turned i (entry x i) refl) k l e
      ∙ sym (of_products n (entry x) (λ i. sin_turn ((k + 1) * (2 * i + 1)) (4 * n)) _ (λ i. sin_at n L ((k + 1) * (2 * i + 1)))))

  second_is : reversed residue_ops (dct2_sum turns) ≡ dst2_sum x
  unfolding dst2_sum
  second_is =
      let whole : length (dct2_sum turns) ≡ n = length_dct2 turns ∙ length_alternated residue_ops x in
      is_tab 0 (reversed residue_ops (dct2_sum turns)) n (length_reversed residue_ops (dct2_sum turns) ∙ whole)
      (λ k b. get_or_reversed residue_ops (dct2_sum turns) k (n - suc k) 0 (omega arith) ∙ second_at k (n - suc k) (omega arith))

  abbrev backwards : List ℕ
  backwards = reversed residue_ops x

  -- the length is above 0: the last entry is m
  abbrev m : ℕ
  m = length x - 1

  positive : suc m ≡ n
  positive = let above : 0 < n = factor_positive L.step n 2048 L.whole (omega arith) in omega arith

  abbrev third_sine : ℕ → ℕ
  third_sine k = sum m (λ i. entry x i * sin_turn ((i + 1) * (2 * k + 1)) (4 * n)) + entry x m * half * sin_turn (2 * k + 1) 4

  of_third_sine : (k : ℕ)
      → of p (third_sine k)
      ≡ Zp.add (Sum.sum Zp m (λ i. Zp.mul (residues x i) (Turn.sn Zp n W ((i + 1) * (2 * k + 1)))))
      (Zp.mul (Zp.mul (residues x m) W.half) (Turn.sn Zp n W (n * (2 * k + 1))))
  of_third_sine k =
      of_add p above (sum m (λ i. entry x i * sin_turn ((i + 1) * (2 * k + 1)) (4 * n))) (entry x m * half * sin_turn (2 * k + 1) 4)
      ∙ ap₂ Zp.add
      (of_products m (entry x) (λ i. sin_turn ((i + 1) * (2 * k + 1)) (4 * n)) _ (λ i. sin_at n L ((i + 1) * (2 * k + 1))))
      (of_mul p above (entry x m * half) (sin_turn (2 * k + 1) 4)
      ∙ ap₂ Zp.mul (of_mul p above (entry x m) half ∙ ap (Zp.mul (residues x m)) (sym (half_at n L)))
      (ap (of p) (last_sine n L k) ∙ sin_at n L (n * (2 * k + 1))))

  third_at : (k : ℕ) → k < n → turned residue_ops k (entry (dct3_sum backwards) k) ≡ third_sine k % p
  third_at k l =
      let whole : length backwards ≡ n = length_reversed residue_ops x in
      let outputs : length (dct3_sum backwards) ≡ length backwards = length_dct3 backwards in
      is_output (turned residue_ops k (entry (dct3_sum backwards) k)) (third_sine k)
      (turned_reduced k (entry (dct3_sum backwards) k) (Nat.mod-eq_of_lt ((dct3_residues backwards).below k (omega arith))))
      (of_turned k (entry (dct3_sum backwards) k) (of_dct3_part 1 (suc m) n (Nat.one-mul (suc m) ∙ positive) L backwards (whole ∙ sym positive) k (omega arith))
      ∙ third_sines Zp n W m positive (residues x) (residues backwards)
      (λ i j e. ap (of p) (get_or_reversed residue_ops x i j 0 (e ∙ positive))) k
      ∙ sym (of_third_sine k))

  third_is : alternated residue_ops (dct3_sum backwards) ≡ dst3_sum x
  unfolding dst3_sum
  third_is =
      let whole : length (dct3_sum backwards) ≡ n = length_dct3 backwards ∙ length_reversed residue_ops x in
      is_tab 0 (alternated residue_ops (dct3_sum backwards)) n (length_alternated residue_ops (dct3_sum backwards) ∙ whole)
      (λ k b. get_or_alternated residue_ops (dct3_sum backwards) k 0 (omega arith) ∙ third_at k b)

pub dst2_by_dct2 : (x : List ℕ) → Length (length x) → reversed residue_ops (dct2_sum (alternated residue_ops x)) ≡ dst2_sum x
dst2_by_dct2 = second_is

pub dst3_by_dct3 : (x : List ℕ) → Length (length x) → alternated residue_ops (dct3_sum (reversed residue_ops x)) ≡ dst3_sum x
dst3_by_dct3 = third_is

-- so its outputs are sums over the ring of residues, u lengths m being the length n
pub of_dst3_part : (u m n : ℕ) → u * m ≡ n → (L : Length n) (x : List ℕ) → length x ≡ m → (k : ℕ) → k < m
    → residues (dst3_sum x) k ≡ Zp.mul (sign Zp k) (third Zp n (turn_at n L) u m (residues (reversed residue_ops x)) k)
of_dst3_part u m n parts L x N k l =
    let inner : length (dct3_sum (reversed residue_ops x)) ≡ m = length_dct3 (reversed residue_ops x) ∙ length_reversed residue_ops x ∙ N in
    ap (λ (y : List ℕ). residues y k) (sym (dst3_by_dct3 x (subst Length (sym N) (part_length u m n parts L))))
    ∙ ap (of p) (get_or_alternated residue_ops (dct3_sum (reversed residue_ops x)) k 0 (omega arith))
    ∙ of_turned k (entry (dct3_sum (reversed residue_ops x)) k)
    (of_dct3_part u m n parts L (reversed residue_ops x) (length_reversed residue_ops x ∙ N) k l)
