-- The fold before and the spread after the DCT-IV of mdct_via_dct4.rs: their lengths, and over residues that they give the sums of MDCT and IMDCT
-- (mdct_folded, imdct_spread_first, imdct_spread_second), where N = 2g and 4g goes into a quarter turn. Assumes nothing.
use mathlib.Core.Path.{◌≡◌, refl, sym, ◌∙◌, ap}
use mathlib.Core.List.{List, ◌++◌}
use Prim.Native.Nat.{ℕ, ◌+◌, ◌*◌, ◌-◌, ◌%◌, ◌<◌}
use native.Mathlib.Nat as Nat
use native.Mathlib.Decide.{dec_lt}
use native.Mathlib.Omega.{arith}
use lib.ListN.{length, take, drop, get_or, length-append, length-drop, get_or-append}
use lib.Seq.{length-take-le, get_or-take, get_or-drop}
use Rattle.ring.specs.Finite.{tab}
use Rattle.ring.proofs.Ring as Ring
use Rattle.ring.proofs.Fold.{Fold}
use Rattle.ring.proofs.Table.{length_tab, get_or_tab, is_tab}
use Rattle.ring.proofs.Modular.{Residue, of}
use Rattle.sums.specs.Residue.{p, Residues}
use Rattle.sums.specs.Transform.{entry, dct4_sum, mdct_sum, imdct_sum}
use Rattle.sums.proofs.Constants.{Zp}
use Rattle.sums.proofs.Fold.{windowed, mdct_of_fold, imdct_ahead, imdct_mirror, imdct_beyond}
use Rattle.sums.proofs.Lengths.{Length, turn_at}
use Rattle.sums.proofs.Outputs.{residues, residues_front, residues_after, length_imdct, imdct_residues}
use Rattle.algorithms.specs.Ops.{Ops}
use Rattle.algorithms.specs.Fold.{first_scaled, second_scaled, low_fold, high_fold, folded, first_spread, second_spread, spread_first, spread_second}
use Rattle.algorithms.specs.Residues.{residue_ops}
use Rattle.algorithms.proofs.Carried.{is_entry, of_sum, of_difference, of_product, of_negative}
use Rattle.algorithms.proofs.Lists.{get_d_after, cond_below}

-- over any arithmetic: the lengths, and the entries of the fold
module _ {A : Type 0} (O : Ops A) (g : ℕ) (w : List A) where
  pub length_folded : (first second : List A) → length (folded O g w first second) ≡ 2 * g
  unfolding folded
  length_folded first second =
      omega (
        arith,
        length-append (tab g (low_fold O g w second)) (tab g (high_fold O g w first)),
        length_tab g (low_fold O g w second),
        length_tab g (high_fold O g w first),
      )

  pub folded_low : (first second : List A) (d : A) (i : ℕ) → i < g → get_or (folded O g w first second) i d ≡ low_fold O g w second i
  unfolding folded
  folded_low first second d i l =
      get_or-append (tab g (low_fold O g w second)) (tab g (high_fold O g w first)) d i (omega (arith, length_tab g (low_fold O g w second)))
      ∙ get_or_tab g (low_fold O g w second) i d l

  pub folded_high : (first second : List A) (d : A) (t : ℕ) → t < g → get_or (folded O g w first second) (g + t) d ≡ high_fold O g w first t
  unfolding folded
  folded_high first second d t l =
      get_d_after (tab g (low_fold O g w second)) (tab g (high_fold O g w first)) g t d (length_tab g (low_fold O g w second))
      ∙ get_or_tab g (high_fold O g w first) t d l

-- over residues, the fold is of residues
pub folded_residues : (g : ℕ) (w first second : List ℕ) → Residues (folded residue_ops g w first second)
folded_residues g w first second = record {
  below = λ k l. elim (dec_lt k g) [
    | yes low ↦ rw (folded_low residue_ops g w first second 0 k low) (Nat.mod-lt _ (omega arith))
    | no high ↦
        let place : k ≡ g + (k - g) = omega arith in
        rw (place, folded_high residue_ops g w first second 0 (k - g) (omega (arith, length_folded residue_ops g w first second))) (Nat.mod-lt _ (omega arith))
  ];
}

module _ (g : ℕ) (L : Length (4 * g)) (w first second : List ℕ) (N : length first ≡ 2 * g) where
  -- both segments under the window
  abbrev y : ℕ → Residue p
  y = windowed g L w (first ++ second)

  first_scaled_is : (n m : ℕ) → n < 2 * g → n ≡ m → of p (first_scaled residue_ops g w first n) ≡ y m
  first_scaled_is n m l e =
      of_product (entry first n) (entry w n) (sym (residues_front (2 * g) first second N n l)) refl ∙ Zp.mul_comm (residues (first ++ second) n) (residues w n) ∙ ap y e

  second_scaled_is : (n m : ℕ) → 2 * g + n ≡ m → of p (second_scaled residue_ops g w second n) ≡ y m
  second_scaled_is n m e =
      of_product (entry second n) (entry w (2 * g + n)) (sym (residues_after (2 * g) first second N n)) refl
      ∙ Zp.mul_comm (residues (first ++ second) (2 * g + n)) (residues w (2 * g + n)) ∙ ap y e

  folds : Fold Zp g (turn_at (4 * g) L) y (residues (folded residue_ops g w first second))
  folds = record {
    low = λ i r e.
        ap (of p) (folded_low residue_ops g w first second 0 i (omega arith))
        ∙ of_difference _ _ (of_negative _ (second_scaled_is _ (2 * g + r) (omega arith))) (second_scaled_is _ (3 * g + i) (omega arith));
    high = λ t r l e.
        ap (of p) (folded_high residue_ops g w first second 0 t l)
        ∙ of_difference _ _ (first_scaled_is _ t (omega arith) (omega arith)) (first_scaled_is _ r (omega arith) (omega arith));
  }

  -- MDCT is DCT-IV of the fold
  pub mdct_folded : dct4_sum (folded residue_ops g w first second) ≡ mdct_sum (2 * g) w (first ++ second)
  mdct_folded = mdct_of_fold g L w (first ++ second) (folded residue_ops g w first second) (length_folded residue_ops g w first second) folds

  -- what a DCT-IV adds to both outputs
  module _ (X : List ℕ) (M : length X ≡ 2 * g) where
    abbrev whole : List ℕ
    whole = imdct_sum (2 * g) w (first ++ second) X

    settled : (n v : ℕ) → n < 2 * (2 * g) → v % p ≡ v → of p v ≡ residues whole n → v ≡ entry whole n
    settled n v l reduced same =
        is_entry whole (imdct_residues (2 * g) w (first ++ second) X) n v (omega (arith, length_imdct (2 * g) w (first ++ second) X)) reduced same

    -- an output of the DCT-IV taken away
    less : (n i held : ℕ) → n < 2 * (2 * g) → residues (first ++ second) n ≡ of p held
        → residues whole n ≡ Zp.add (residues (first ++ second) n) (Zp.mul (Zp.neg (residues (dct4_sum X) i)) (residues w n))
        → residue_ops.sub held (residue_ops.mul (entry (dct4_sum X) i) (entry w n)) ≡ entry whole n
    less n i held l e rule =
        settled n _ l (Nat.mod-mod _ p)
        (of_difference held _ (sym e) (of_product (entry (dct4_sum X) i) (entry w n) refl refl)
        ∙ ap (Zp.add (residues (first ++ second) n)) (sym (Ring.neg_mul Zp (residues (dct4_sum X) i) (residues w n))) ∙ sym rule)

    first_spread_is : (n : ℕ) → n < 2 * g → first_spread residue_ops g w (dct4_sum X) first n ≡ entry whole n
    first_spread_is n l =
        cond_below n g _ _ (entry whole n)
        (λ low.
        settled n _ (omega arith) (Nat.mod-mod _ p)
        (of_sum (entry first n) _ (sym (residues_front (2 * g) first second N n l)) (of_product (entry (dct4_sum X) (g + n)) (entry w n) refl refl)
        ∙ sym (imdct_ahead g L w (first ++ second) X M n low)))
        (λ high.
        less n _ (entry first n) (omega arith) (residues_front (2 * g) first second N n l)
        (imdct_mirror g L w (first ++ second) X M n _ (omega arith) (omega arith)))

    second_spread_is : (n : ℕ) → n < 2 * g → second_spread residue_ops g w (dct4_sum X) second n ≡ entry whole (2 * g + n)
    second_spread_is n l =
        cond_below n g _ _ (entry whole (2 * g + n))
        (λ low.
        less (2 * g + n) _ (entry second n) (omega arith) (residues_after (2 * g) first second N n)
        (imdct_mirror g L w (first ++ second) X M (2 * g + n) _ (omega arith) (omega arith)))
        (λ high.
        less (2 * g + n) _ (entry second n) (omega arith) (residues_after (2 * g) first second N n)
        (imdct_beyond g L w (first ++ second) X M (2 * g + n) _ (omega arith) (omega arith)))

    -- IMDCT is DCT-IV, spread over the first output and the second
    pub imdct_spread_first : spread_first residue_ops g w (dct4_sum X) first ≡ take (2 * g) (imdct_sum (2 * g) w (first ++ second) X)
    unfolding spread_first
    imdct_spread_first =
        sym (is_tab 0 (take (2 * g) whole) (2 * g) (length-take-le (2 * g) whole (omega (arith, length_imdct (2 * g) w (first ++ second) X)))
        (λ n l. get_or-take (2 * g) whole n 0 l ∙ sym (first_spread_is n l)))

    pub imdct_spread_second : spread_second residue_ops g w (dct4_sum X) second ≡ drop (2 * g) (imdct_sum (2 * g) w (first ++ second) X)
    unfolding spread_second
    imdct_spread_second =
        sym (is_tab 0 (drop (2 * g) whole) (2 * g) (omega (arith, length-drop (2 * g) whole, length_imdct (2 * g) w (first ++ second) X))
        (λ n l. get_or-drop (2 * g) whole n 0 ∙ sym (second_spread_is n l)))
