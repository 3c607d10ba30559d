-- The step of split radix for DCT-II over residues, at every length 4q that goes into a quarter turn: `dct2_split`.
-- First the entries of the three inner inputs, as the split over any ring has them; then the four kinds of output. Assumes nothing.
use mathlib.Core.Path.{◌≡◌, refl, sym, ◌∙◌, ap, subst}
use mathlib.Core.Bool.{Bool, true, false, cond}
use mathlib.Core.List.{List}
use Prim.Native.Nat.{ℕ, zero, suc, ◌+◌, ◌*◌, ◌-◌, ◌%◌, ◌<◌}
use native.Mathlib.Nat as Nat
use native.Mathlib.Decide.{dec_lt}
use native.Mathlib.Omega.{arith}
use lib.Dec.{T, eqb, eqb→eq, eqb_refl}
use lib.ListN.{length}
use Rattle.ring.proofs.Parity.{Parity, even, odd, parity}
use Rattle.ring.proofs.Sign.{sign}
use Rattle.ring.proofs.SplitTwo as SplitTwo
use Rattle.ring.proofs.Table.{get_or_tab, is_tab}
use Rattle.ring.proofs.Turn as Turn
use Rattle.ring.proofs.Modular.{Residue, of}
use Rattle.sums.specs.Residue.{p}
use Rattle.sums.specs.Angle.{cos_turn, sin_turn}
use Rattle.sums.specs.Transform.{entry, dct2_sum}
use Rattle.sums.proofs.Constants.{Zp}
use Rattle.sums.proofs.Lengths.{Length, turn_at}
use Rattle.sums.proofs.Outputs.{residues, length_dct2, dct2_residues}
use Rattle.algorithms.specs.Residues.{residue_ops, residue_twiddles}
use Rattle.algorithms.specs.Split.{across, half_low, half_high, lower, upper, cos_input, sin_input, input_dct2, input_dct4_even, input_dct4_odd, sin_output, after_even, before_even, merged_two, merge_two}
use Rattle.algorithms.proofs.Inputs as Inputs
use Rattle.algorithms.proofs.Lists.{get_or_back, there_entry, back_entry, by_fours_zero, by_fours_one, by_fours_two, by_fours_three}
use Rattle.algorithms.proofs.Carried.{is_entry, of_sum, of_difference, of_negative, of_turned, of_along, of_across, of_dct2_at, of_dct2_part}
use Rattle.algorithms.proofs.Twiddles.{of_twiddle_cos, of_twiddle_sin}

dct2_reduced : (y : List ℕ) (k : ℕ) → k < length y → entry (dct2_sum y) k % p ≡ entry (dct2_sum y) k
dct2_reduced y k l = Nat.mod-eq_of_lt ((dct2_residues y).below k (omega (arith, length_dct2 y)))

module _ (q : ℕ) (L : Length (4 * q)) (x : List ℕ) where
  abbrev W : Turn.Turn Zp (4 * q)
  W = turn_at (4 * q) L

  -- the three inner inputs
  abbrev half : List ℕ
  half = input_dct2 residue_ops q x

  abbrev cosines : List ℕ
  cosines = input_dct4_even residue_ops residue_twiddles q x

  abbrev sines : List ℕ
  sines = input_dct4_odd residue_ops residue_twiddles q x

  length_half : length half ≡ 2 * q
  length_half = Inputs.length_half residue_ops residue_twiddles q x

  length_cosines : length cosines ≡ q
  length_cosines = Inputs.length_cosines residue_ops residue_twiddles q x

  length_sines : length sines ≡ q
  length_sines = Inputs.length_sines residue_ops residue_twiddles q x

  half_entry : (i k : ℕ) → i + suc k ≡ 2 * q → residues half i ≡ Zp.add (residues x i) (residues x (2 * q + k))
  unfolding input_dct2
  half_entry i k e =
      elim (dec_lt i q) [
        | yes l ↦
            let place : 4 * q - 1 - i ≡ 2 * q + k = omega arith in
            ap (of p) (there_entry q (half_low residue_ops q x) (half_high residue_ops q x) 0 i l)
            ∙ of_sum (entry x (4 * q - 1 - i)) (entry x i) (ap (residues x) place) refl
            ∙ Zp.add_comm (residues x (2 * q + k)) (residues x i)
        | no b ↦
            let place : 2 * q - 1 - k ≡ i = omega arith in
            ap (of p) (back_entry q (half_low residue_ops q x) (half_high residue_ops q x) 0 i k (omega arith) e)
            ∙ of_sum (entry x (2 * q - 1 - k)) (entry x (2 * q + k)) (ap (residues x) place) refl
      ]

  -- what is left at i when the entry as far from the end is taken away
  difference : ℕ → Residue p
  difference i = Zp.add (residues x i) (Zp.neg (residues x (4 * q - 1 - i)))

  difference_is : (i k : ℕ) → i + suc k ≡ 2 * q → difference i ≡ Zp.add (residues x i) (Zp.neg (residues x (2 * q + k)))
  unfolding difference
  difference_is i k e =
      let place : 4 * q - 1 - i ≡ 2 * q + k = omega arith in
      ap (λ (j : ℕ). Zp.add (residues x i) (Zp.neg (residues x j))) place

  lower_is : (i : ℕ) → of p (lower residue_ops q x i) ≡ difference i
  unfolding difference
  lower_is i = of_difference (entry x i) (entry x (4 * q - 1 - i)) refl refl

  upper_is : (i k : ℕ) → i + suc k ≡ 2 * q → of p (upper residue_ops q x i) ≡ difference k
  upper_is i k e =
      let place : 2 * q - 1 - i ≡ k = omega arith in
      of_difference (entry x (2 * q - 1 - i)) (entry x (2 * q + i)) (ap (residues x) place) refl
      ∙ sym (difference_is k i (omega arith))

  cosines_entry : (i k : ℕ) → i < q → i + suc k ≡ 2 * q
      → residues cosines i
      ≡ Zp.add (Zp.mul (difference i) (Turn.cs Zp (4 * q) W (2 * i + 1))) (Zp.mul (difference k) (Turn.sn Zp (4 * q) W (2 * i + 1)))
  unfolding input_dct4_even
  cosines_entry i k l e =
      ap (of p) (get_or_tab q (cos_input residue_ops residue_twiddles q x) i 0 l)
      ∙ of_along (lower residue_ops q x i) (upper residue_ops q x i) (cos_turn (2 * i + 1) (16 * q)) (sin_turn (2 * i + 1) (16 * q)) (lower_is i)
      (upper_is i k e) (of_twiddle_cos q L i) (of_twiddle_sin q L i)

  sines_entry : (i k r : ℕ) → i + suc k ≡ 2 * q → i + suc r ≡ q
      → residues sines r
      ≡ Zp.mul (sign Zp i)
      (Zp.add (Zp.mul (difference k) (Turn.cs Zp (4 * q) W (2 * i + 1)))
      (Zp.neg (Zp.mul (difference i) (Turn.sn Zp (4 * q) W (2 * i + 1)))))
  unfolding input_dct4_odd
  sines_entry i k r e h =
      ap (of p) (get_or_back q (sin_input residue_ops residue_twiddles q x) r i 0 (omega arith))
      ∙ of_turned i (across residue_ops (lower residue_ops q x i) (upper residue_ops q x i) (cos_turn (2 * i + 1) (16 * q)) (sin_turn (2 * i + 1) (16 * q)))
      (of_across (lower residue_ops q x i) (upper residue_ops q x i) (cos_turn (2 * i + 1) (16 * q)) (sin_turn (2 * i + 1) (16 * q)) (lower_is i)
      (upper_is i k e) (of_twiddle_cos q L i) (of_twiddle_sin q L i))

  -- the outputs of the three
  half_output : (k : ℕ) → k < 2 * q → of p (entry (dct2_sum half) k) ≡ SplitTwo.part Zp q W (2 * q) 2 (residues half) k
  half_output k l = of_dct2_part 2 (2 * q) (4 * q) (omega arith) L half length_half k l

  quarter_output : (y : List ℕ) → length y ≡ q → (k : ℕ) → k < q → of p (entry (dct2_sum y) k) ≡ SplitTwo.part Zp q W q 4 (residues y) k
  quarter_output y N k l = of_dct2_part 4 q (4 * q) refl L y N k l

  module _ (N : length x ≡ 4 * q) where
    -- what has the residue of an output, and is reduced, is that output
    is_output : (m v : ℕ) → m < 4 * q → v % p ≡ v → of p v ≡ SplitTwo.whole Zp q W (residues x) m → v ≡ entry (dct2_sum x) m
    is_output m v l reduced e =
        is_entry (dct2_sum x) (dct2_residues x) m v (omega (arith, length_dct2 x, N)) reduced (e ∙ sym (of_dct2_at (4 * q) L x N m l))

    abbrev merged : ℕ → ℕ
    merged = merged_two residue_ops q (dct2_sum half) (dct2_sum cosines) (dct2_sum sines)

    even_entry : (k : ℕ) → k < 2 * q → entry (dct2_sum half) k ≡ entry (dct2_sum x) (2 * k)
    even_entry k l =
        is_output (2 * k) (entry (dct2_sum half) k) (omega arith) (dct2_reduced half k (omega (arith, length_half)))
        (half_output k l ∙ sym (SplitTwo.even_output Zp q W (residues x) (residues half) half_entry k))

    -- the sine part of 4n ± 1
    sine_part : (n m : ℕ) → n + m ≡ q → m < q
        → of p (sin_output residue_ops q (dct2_sum half) (dct2_sum cosines) (dct2_sum sines) n)
        ≡ Zp.mul (sign Zp (suc (n + q))) (SplitTwo.part Zp q W q 4 (residues sines) m)
    sine_part n m e l =
        let place : q - n ≡ m = omega arith in
        of_turned (suc (n + q)) (entry (dct2_sum sines) (q - n))
        (ap (λ (k : ℕ). of p (entry (dct2_sum sines) k)) place ∙ quarter_output sines length_sines m l)

    after_entry : (n : ℕ) → n < q
        → after_even residue_ops q (dct2_sum half) (dct2_sum cosines) (dct2_sum sines) n ≡ entry (dct2_sum x) (4 * n + 1)
    after_entry zero l =
        is_output 1 (entry (dct2_sum cosines) 0) (omega arith) (dct2_reduced cosines 0 (omega (arith, length_cosines)))
        (quarter_output cosines length_cosines 0 l
        ∙ sym (SplitTwo.first_output Zp q W (residues x) difference (residues cosines) (residues sines) difference_is cosines_entry sines_entry))
    after_entry (suc n) l =
        is_output (4 * suc n + 1) _ (omega arith) (Nat.mod-mod _ p)
        (of_difference _ _ (quarter_output cosines length_cosines (suc n) l) (sine_part (suc n) (q - suc n) (omega arith) (omega arith))
        ∙ sym (SplitTwo.after_output Zp q W (residues x) difference (residues cosines) (residues sines) difference_is cosines_entry sines_entry
        (suc n) (q - suc n) (omega arith)))

    before_entry : (n : ℕ) → n < q
        → before_even residue_ops q (dct2_sum half) (dct2_sum cosines) (dct2_sum sines) n ≡ entry (dct2_sum x) (4 * n + 3)
    before_entry n l = by (eqb (suc n) q) refl
      where
        by : (b : Bool) → eqb (suc n) q ≡ b
            → cond b (residue_ops.neg (entry (dct2_sum sines) 0))
            (residue_ops.add (entry (dct2_sum cosines) (suc n)) (sin_output residue_ops q (dct2_sum half) (dct2_sum cosines) (dct2_sum sines) (suc n)))
            ≡ entry (dct2_sum x) (4 * n + 3)
        by true b =
            is_output (4 * n + 3) _ (omega arith) (Nat.mod-mod _ p)
            (of_negative _ (quarter_output sines length_sines 0 (omega arith))
            ∙ sym (SplitTwo.last_output Zp q W (residues x) difference (residues cosines) (residues sines) difference_is cosines_entry sines_entry n
            (eqb→eq (suc n) q (subst T (sym b) tt))))
        by false b =
            let other : suc n ≡ q → ⊥ = λ h. subst T (ap (eqb (suc n)) h ∙ b) (eqb_refl (suc n)) in
            is_output (4 * n + 3) _ (omega arith) (Nat.mod-mod _ p)
            (of_sum _ _ (quarter_output cosines length_cosines (suc n) (omega arith)) (sine_part (suc n) (q - suc n) (omega arith) (omega arith))
            ∙ sym (SplitTwo.before_output Zp q W (residues x) difference (residues cosines) (residues sines) difference_is cosines_entry sines_entry
            n (q - suc n) (omega arith)))

    merged_entry : (m : ℕ) → m < 4 * q → entry (dct2_sum x) m ≡ merged m
    merged_entry m l = by (parity m)
      where
        at : (k : ℕ) → k ≡ m → merged k ≡ entry (dct2_sum x) k → entry (dct2_sum x) m ≡ merged m
        at k e is = sym (ap merged (sym e) ∙ is ∙ ap (entry (dct2_sum x)) e)

        by_even : (u : ℕ) → m ≡ 2 * u → Parity u → entry (dct2_sum x) m ≡ merged m
        by_even u e (even n h) =
            let number : 2 * (2 * n) ≡ 4 * n = omega arith in
            at (4 * n) (omega arith) (by_fours_zero _ _ _ _ n ∙ even_entry (2 * n) (omega arith) ∙ ap (entry (dct2_sum x)) number)
        by_even u e (odd n h) =
            let number : 2 * (2 * n + 1) ≡ 4 * n + 2 = omega arith in
            at (4 * n + 2) (omega arith) (by_fours_two _ _ _ _ n ∙ even_entry (2 * n + 1) (omega arith) ∙ ap (entry (dct2_sum x)) number)

        by_odd : (u : ℕ) → m ≡ 2 * u + 1 → Parity u → entry (dct2_sum x) m ≡ merged m
        by_odd u e (even n h) = at (4 * n + 1) (omega arith) (by_fours_one _ _ _ _ n ∙ after_entry n (omega arith))
        by_odd u e (odd n h) = at (4 * n + 3) (omega arith) (by_fours_three _ _ _ _ n ∙ before_entry n (omega arith))

        by : Parity m → entry (dct2_sum x) m ≡ merged m
        by (even u e) = by_even u e (parity u)
        by (odd u e) = by_odd u e (parity u)

pub dct2_split : (q : ℕ) → Length (4 * q) → (x : List ℕ) → length x ≡ 4 * q
    → merge_two residue_ops q (dct2_sum (input_dct2 residue_ops q x)) (dct2_sum (input_dct4_even residue_ops residue_twiddles q x))
    (dct2_sum (input_dct4_odd residue_ops residue_twiddles q x))
    ≡ dct2_sum x
unfolding merge_two
dct2_split q L x N = sym (is_tab 0 (dct2_sum x) (4 * q) (length_dct2 x ∙ N) (merged_entry q L x N))
