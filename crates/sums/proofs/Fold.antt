-- The MDCT of two segments of N = 2g entries is the DCT-IV of their fold (mdct_of_fold), and what an IMDCT adds at each place is the window times an output
-- of DCT-IV, or its negative (imdct_ahead, imdct_mirror, imdct_beyond), where 4g goes into a quarter turn. Assumes nothing.
use mathlib.Core.Path.{◌≡◌, sym, ◌∙◌, ap}
use mathlib.Core.List.{List}
use Prim.Native.Nat.{ℕ, suc, ◌+◌, ◌*◌, ◌<◌}
use native.Mathlib.Nat as Nat
use native.Mathlib.Omega.{arith}
use lib.ListN.{length}
use Rattle.ring.proofs.Ring as Ring
use Rattle.ring.proofs.Fold as Fold
use Rattle.ring.proofs.Fold.{Fold}
use Rattle.ring.proofs.Sum as Sum
use Rattle.ring.proofs.Turn as Turn
use Rattle.ring.proofs.Modular.{Residue, of, of_add, of_mul}
use Rattle.sums.specs.Residue.{p}
use Rattle.sums.specs.Angle.{cos_turn}
use Rattle.sums.specs.Transform.{sum, entry, dct4_sum, mdct_sum, imdct_sum}
use Rattle.sums.proofs.Constants.{above, Zp}
use Rattle.sums.proofs.Fourths.{of_dct4}
use Rattle.sums.proofs.Lengths.{Length, turn_at, cos_at, of_products}
use Rattle.sums.proofs.Outputs.{residues, of_output, residues_only, length_dct4, length_mdct, dct4_residues, mdct_residues}

module _ (g : ℕ) (L : Length (4 * g)) where
  abbrev W : Turn.Turn Zp (4 * g)
  W = turn_at (4 * g) L

  -- 8N units are a turn
  cos_four : (a : ℕ) → of p (cos_turn a (8 * (2 * g))) ≡ Turn.cs Zp (4 * g) (turn_at (4 * g) L) a
  cos_four a =
      let units : 8 * (2 * g) ≡ 4 * (4 * g) = omega arith in
      ap (λ (b : ℕ). of p (cos_turn a b)) units ∙ cos_at (4 * g) L a

  -- the entries under the window
  abbrev pub windowed : List ℕ → List ℕ → ℕ → Residue p
  windowed w x n = Zp.mul (residues w n) (residues x n)

  of_mdct : (w x : List ℕ) (k : ℕ) → k < 2 * g
      → residues (mdct_sum (2 * g) w x) k ≡ Sum.sum Zp (2 * (2 * g)) (λ n. Zp.mul (windowed w x n) (Fold.block_cosine Zp g W k n))
  unfolding mdct_sum
  of_mdct w x k l =
      of_output (2 * g) (λ k. sum (2 * (2 * g)) (λ n. entry w n * entry x n * cos_turn ((2 * n + 1 + 2 * g) * (2 * k + 1)) (8 * (2 * g)))) k l
      ∙ of_products (2 * (2 * g)) (λ n. entry w n * entry x n) (λ n. cos_turn ((2 * n + 1 + 2 * g) * (2 * k + 1)) (8 * (2 * g))) _
      (λ n. cos_four ((2 * n + 1 + 2 * g) * (2 * k + 1)))
      ∙ Sum.sum_ext Zp (2 * (2 * g)) _ _ (λ n b. ap (λ (v : Residue p). Zp.mul v (Fold.block_cosine Zp g W k n)) (of_mul p above (entry w n) (entry x n)))

  -- f is x under the window w, folded
  pub mdct_of_fold : (w x f : List ℕ) → length f ≡ 2 * g → Fold Zp g (turn_at (4 * g) L) (windowed w x) (residues f)
      → dct4_sum f ≡ mdct_sum (2 * g) w x
  mdct_of_fold w x f N folded =
      residues_only (2 * g) (dct4_sum f) (mdct_sum (2 * g) w x) (length_dct4 f ∙ N) (length_mdct (2 * g) w x) (dct4_residues f) (mdct_residues (2 * g) w x)
      (λ k l. of_dct4 (2 * g) (4 * g) (omega arith) L f N k l ∙ sym (of_mdct w x k l ∙ Fold.folds Zp g W (windowed w x) (residues f) folded k))

  module _ (w held X : List ℕ) (N : length X ≡ 2 * g) where
    -- what is held at n once a value times the window is added
    abbrev pub more : ℕ → Residue p → Residue p
    more n v = Zp.add (residues held n) (Zp.mul v (residues w n))

    of_imdct : (n : ℕ) → n < 2 * (2 * g)
        → residues (imdct_sum (2 * g) w held X) n ≡ more n (Sum.sum Zp (2 * g) (λ k. Zp.mul (residues X k) (Fold.block_cosine Zp g W k n)))
    unfolding imdct_sum
    of_imdct n l =
        of_output (2 * (2 * g)) (λ n. entry held n + entry w n * inner n) n l ∙ of_add p above (entry held n) (entry w n * inner n)
        ∙ ap (Zp.add (residues held n))
        (of_mul p above (entry w n) (inner n) ∙ Zp.mul_comm (residues w n) (of p (inner n))
        ∙ ap (λ (v : Residue p). Zp.mul v (residues w n))
        (of_products (2 * g) (entry X) (λ k. cos_turn ((2 * n + 1 + 2 * g) * (2 * k + 1)) (8 * (2 * g))) _
        (λ k. cos_four ((2 * n + 1 + 2 * g) * (2 * k + 1)))))
      where
        inner : ℕ → ℕ
        inner n = sum (2 * g) (λ k. entry X k * cos_turn ((2 * n + 1 + 2 * g) * (2 * k + 1)) (8 * (2 * g)))

    -- the angles of DCT-IV are symmetric
    gathered : (i : ℕ) → i < 2 * g → Sum.sum Zp (2 * g) (λ k. Zp.mul (residues X k) (Fold.four_cosine Zp g W k i)) ≡ residues (dct4_sum X) i
    gathered i l =
        Sum.sum_ext Zp (2 * g) _ _ (λ k b. ap (λ (a : ℕ). Zp.mul (residues X k) (Turn.cs Zp (4 * g) W a)) (Nat.mul_comm (2 * i + 1) (2 * k + 1)))
        ∙ sym (of_dct4 (2 * g) (4 * g) (omega arith) L X N i l)

    -- where the cosines are those of DCT-IV at i, negated
    negative : (n i : ℕ) → n < 2 * (2 * g) → i < 2 * g → ((k : ℕ) → Fold.block_cosine Zp g W k n ≡ Zp.neg (Fold.four_cosine Zp g W k i))
        → residues (imdct_sum (2 * g) w held X) n ≡ more n (Zp.neg (residues (dct4_sum X) i))
    negative n i l b opposite =
        of_imdct n l
        ∙ ap (more n)
        (Sum.sum_ext Zp (2 * g) _ _ (λ k c. ap (Zp.mul (residues X k)) (opposite k) ∙ Ring.mul_neg Zp (residues X k) (Fold.four_cosine Zp g W k i))
        ∙ Sum.sum_neg Zp (2 * g) (λ k. Zp.mul (residues X k) (Fold.four_cosine Zp g W k i)) ∙ ap Zp.neg (gathered i b))

    pub imdct_ahead : (n : ℕ) → n < g → residues (imdct_sum (2 * g) w held X) n ≡ more n (residues (dct4_sum X) (g + n))
    imdct_ahead n l =
        of_imdct n (omega arith)
        ∙ ap (more n)
        (Sum.sum_ext Zp (2 * g) _ _ (λ k b. ap (Zp.mul (residues X k)) (Fold.angle_ahead Zp g W k n)) ∙ gathered (g + n) (omega arith))

    pub imdct_mirror : (n i : ℕ) → i < 2 * g → n + suc i ≡ 3 * g
        → residues (imdct_sum (2 * g) w held X) n ≡ more n (Zp.neg (residues (dct4_sum X) i))
    imdct_mirror n i l e = negative n i (omega arith) l (λ k. Fold.angle_mirror Zp g W k n i e)

    pub imdct_beyond : (n i : ℕ) → i < g → n ≡ 3 * g + i
        → residues (imdct_sum (2 * g) w held X) n ≡ more n (Zp.neg (residues (dct4_sum X) i))
    imdct_beyond n i l e = negative n i (omega arith) (omega arith) (λ k. ap (Fold.block_cosine Zp g W k) e ∙ Fold.angle_beyond Zp g W k i)
