-- The step of split radix for DCT-III over residues, at every length 4q that goes into a quarter turn: `dct3_split`. Assumes nothing.
use mathlib.Core.Path.{◌≡◌, refl, sym, ◌∙◌, ap}
use mathlib.Core.List.{List}
use Prim.Native.Nat.{ℕ, zero, suc, ◌+◌, ◌*◌, ◌-◌, ◌%◌, ◌<◌}
use native.Mathlib.Nat as Nat
use native.Mathlib.Omega.{arith}
use lib.ListN.{length}
use lib.Seq.{ext_get_or}
use Rattle.ring.proofs.Sign.{sign}
use Rattle.ring.proofs.SplitThree as Split
use Rattle.ring.proofs.Table.{get_or_tab}
use Rattle.ring.proofs.Third as Third
use Rattle.ring.proofs.Turn as Turn
use Rattle.ring.proofs.Modular.{of}
use Rattle.sums.specs.Residue.{p}
use Rattle.sums.specs.Transform.{entry, dct3_sum}
use Rattle.sums.proofs.Constants.{Zp}
use Rattle.sums.proofs.Lengths.{Length, turn_at}
use Rattle.sums.proofs.Outputs.{residues, length_dct3, dct3_residues}
use Rattle.algorithms.specs.Residues.{residue_ops, residue_twiddles}
use Rattle.algorithms.specs.Split.{input_evens, input_one, input_three, one_input, three_input, sine_value, lower_dct4, upper_dct4, merge_three}
use Rattle.algorithms.proofs.Carried.{is_entry, of_double, of_sum, of_difference, of_turned, of_along, of_across}
use Rattle.algorithms.proofs.Inputs.{length_evens, length_one, length_three}
use Rattle.algorithms.proofs.Lists.{Quarter, first, second, third, fourth, quarter, length_quarters, quarters_first, quarters_second, quarters_third, quarters_fourth}
use Rattle.algorithms.proofs.Thirds.{of_dct3_part}
use Rattle.algorithms.proofs.Twiddles.{of_twiddle_cos, of_twiddle_sin}

-- q is suc r here
module _ (r : ℕ) (L : Length (4 * suc r)) (x : List ℕ) where
  abbrev q : ℕ
  q = suc r

  abbrev n : ℕ
  n = 4 * suc r

  abbrev W : Turn.Turn Zp (4 * suc r)
  W = turn_at (4 * suc r) L

  -- the three inner inputs
  abbrev evens : List ℕ
  evens = input_evens residue_ops (suc r) x

  abbrev one : List ℕ
  one = input_one residue_ops (suc r) x

  abbrev three : List ℕ
  three = input_three residue_ops (suc r) x

  evens_entry : (i : ℕ) → i < 2 * q → residues evens i ≡ residues x (2 * i)
  unfolding input_evens
  evens_entry i l = ap (of p) (get_or_tab (2 * q) (λ m. entry x (2 * m)) i 0 l)

  one_first : residues one 0 ≡ Zp.add (residues x 1) (residues x 1)
  unfolding input_one
  one_first = ap (of p) (get_or_tab q (one_input residue_ops q x) 0 0 (omega arith)) ∙ of_double (entry x 1)

  one_rest : (i : ℕ) → i < r → residues one (suc i) ≡ Zp.add (residues x (4 * i + 3)) (residues x (4 * i + 5))
  unfolding input_one
  one_rest i l =
      ap (of p) (get_or_tab q (one_input residue_ops q x) (suc i) 0 (omega arith)) ∙ of_sum (entry x (4 * i + 3)) (entry x (4 * i + 5)) refl refl

  three_first : residues three 0 ≡ Zp.add (residues x (4 * r + 3)) (residues x (4 * r + 3))
  unfolding input_three
  three_first =
      let last : 4 * suc r - 1 ≡ 4 * r + 3 = omega arith in
      ap (of p) (get_or_tab q (three_input residue_ops q x) 0 0 (omega arith)) ∙ of_double (entry x (4 * q - 1))
      ∙ ap (λ (i : ℕ). Zp.add (residues x i) (residues x i)) last

  three_rest : (m i : ℕ) → m + suc i ≡ r → residues three (suc m) ≡ Zp.add (residues x (4 * i + 3)) (Zp.neg (residues x (4 * i + 5)))
  unfolding input_three
  three_rest m i e =
      let before : 4 * (q - suc m) - 1 ≡ 4 * i + 3 = omega arith in
      let after : 4 * (q - suc m) + 1 ≡ 4 * i + 5 = omega arith in
      ap (of p) (get_or_tab q (three_input residue_ops q x) (suc m) 0 (omega arith))
      ∙ of_difference (entry x (4 * (q - suc m) - 1)) (entry x (4 * (q - suc m) + 1)) (ap (residues x) before) (ap (residues x) after)

  neighbours : Split.Neighbours Zp r (residues x) (residues one) (residues three)
  neighbours = record { u_first = one_first; u_rest = one_rest; v_first = three_first; v_rest = three_rest }

  -- the three inner outputs at k
  evens_is : (k : ℕ) → k < 2 * q → residues (dct3_sum evens) k ≡ Third.third Zp n W 2 (2 * q) (λ i. residues x (2 * i)) k
  evens_is k l =
      of_dct3_part 2 (2 * q) n (omega arith) L evens (length_evens residue_ops residue_twiddles q x) k l
      ∙ Third.third_ext Zp n W 2 (2 * q) (omega arith) (residues evens) (λ i. residues x (2 * i)) evens_entry k

  one_is : (k : ℕ) → k < q → residues (dct3_sum one) k ≡ Third.third Zp n W 4 q (residues one) k
  one_is k l = of_dct3_part 4 q n refl L one (length_one residue_ops residue_twiddles q x) k l

  three_is : (k : ℕ) → k < q
      → of p (sine_value residue_ops residue_twiddles q (dct3_sum evens) (dct3_sum one) (dct3_sum three) k)
      ≡ Zp.mul (sign Zp k) (Third.third Zp n W 4 q (residues three) k)
  three_is k l = of_turned k (entry (dct3_sum three) k) (of_dct3_part 4 q n refl L three (length_three residue_ops residue_twiddles q x) k l)

  abbrev lower_at : ℕ → ℕ
  lower_at = lower_dct4 residue_ops residue_twiddles (suc r) (dct3_sum evens) (dct3_sum one) (dct3_sum three)

  abbrev upper_at : ℕ → ℕ
  upper_at = upper_dct4 residue_ops residue_twiddles (suc r) (dct3_sum evens) (dct3_sum one) (dct3_sum three)

  lower_is : (k : ℕ) → k < q
      → of p (lower_at k)
      ≡ Split.lower Zp r W (residues x) (residues one) (residues three) neighbours k
  lower_is k l = of_along _ _ _ _ (one_is k l) (three_is k l) (of_twiddle_cos q L k) (of_twiddle_sin q L k)

  upper_is : (k : ℕ) → k < q
      → of p (upper_at k)
      ≡ Split.upper Zp r W (residues x) (residues one) (residues three) neighbours k
  upper_is k l = of_across _ _ _ _ (three_is k l) (one_is k l) (of_twiddle_sin q L k) (of_twiddle_cos q L k)

  module _ (N : length x ≡ 4 * suc r) where
    abbrev T : List ℕ
    T = dct3_sum evens

    abbrev merged : List ℕ
    merged = merge_three residue_ops residue_twiddles (suc r) (dct3_sum evens) (dct3_sum one) (dct3_sum three)

    -- a reduced number whose residue is that of the outer sum at i
    settled : (i v : ℕ) → i < n → v % p ≡ v → of p v ≡ Third.third Zp n W 1 n (residues x) i → v ≡ entry (dct3_sum x) i
    settled i v l reduced is =
        is_entry (dct3_sum x) (dct3_residues x) i v (omega (arith, length_dct3 x, N)) reduced (is ∙ sym (of_dct3_part 1 n n (Nat.one-mul n) L x N i l))

    -- the entries as they were laid out
    merged_first : (k : ℕ) → k < q → entry merged k ≡ residue_ops.add (entry T k) (lower_at k)
    unfolding merge_three
    merged_first k l = quarters_first q _ _ _ _ 0 k l

    merged_second : (i k : ℕ) → k < q → i + suc k ≡ 2 * q → entry merged i ≡ residue_ops.add (entry T i) (upper_at k)
    unfolding merge_three
    merged_second i k l e =
        let place : 2 * q - 1 - k ≡ i = omega arith in
        quarters_second q _ _ _ _ 0 i k l e ∙ ap (λ (m : ℕ). residue_ops.add (entry T m) (upper_at k)) place

    merged_third : (m k : ℕ) → k < q → k + suc m ≡ 2 * q → entry merged (2 * q + k) ≡ residue_ops.sub (entry T m) (upper_at k)
    unfolding merge_three
    merged_third m k l e =
        let place : 2 * q - 1 - k ≡ m = omega arith in
        quarters_third q _ _ _ _ 0 k l ∙ ap (λ (i : ℕ). residue_ops.sub (entry T i) (upper_at k)) place

    merged_fourth : (i k : ℕ) → k < q → i + suc k ≡ 4 * q → entry merged i ≡ residue_ops.sub (entry T k) (lower_at k)
    unfolding merge_three
    merged_fourth i k l e = quarters_fourth q _ _ _ _ 0 i k l e

    at_place : (i : ℕ) → Quarter q i → entry merged i ≡ entry (dct3_sum x) i
    at_place i (first k l e) =
        ap (entry merged) e ∙ merged_first k l
        ∙ settled k (residue_ops.add (entry T k) (lower_at k)) (omega arith) (Nat.mod-mod _ p)
        (of_sum (entry T k) (lower_at k) (evens_is k (omega arith)) (lower_is k l)
        ∙ sym (Split.split_first Zp r W (residues x) (residues one) (residues three) neighbours k))
        ∙ ap (entry (dct3_sum x)) (sym e)
    at_place i (second k l e) =
        merged_second i k l e
        ∙ settled i (residue_ops.add (entry T i) (upper_at k)) (omega arith) (Nat.mod-mod _ p)
        (of_sum (entry T i) (upper_at k) (evens_is i (omega arith)) (upper_is k l)
        ∙ sym (Split.split_second Zp r W (residues x) (residues one) (residues three) neighbours k i (omega arith)))
    at_place i (third k l e) = upper_half (2 * q - suc k) (omega arith)
      where
        upper_half : (m : ℕ) → k + suc m ≡ 2 * q → entry merged i ≡ entry (dct3_sum x) i
        upper_half m back =
            ap (entry merged) e ∙ merged_third m k l back
            ∙ settled (2 * q + k) (residue_ops.sub (entry T m) (upper_at k)) (omega arith) (Nat.mod-mod _ p)
            (of_difference (entry T m) (upper_at k) (evens_is m (omega arith)) (upper_is k l)
            ∙ sym (Split.split_third Zp r W (residues x) (residues one) (residues three) neighbours k m (2 * q + k) back (omega arith)))
            ∙ ap (entry (dct3_sum x)) (sym e)
    at_place i (fourth k l e) =
        merged_fourth i k l e
        ∙ settled i (residue_ops.sub (entry T k) (lower_at k)) (omega arith) (Nat.mod-mod _ p)
        (of_difference (entry T k) (lower_at k) (evens_is k (omega arith)) (lower_is k l)
        ∙ sym (Split.split_fourth Zp r W (residues x) (residues one) (residues three) neighbours k i (omega arith)))

    length_merged : length merged ≡ n
    unfolding merge_three
    length_merged = length_quarters q _ _ _ _

    merged_is : merged ≡ dct3_sum x
    merged_is =
        ext_get_or 0 merged (dct3_sum x) (length_merged ∙ sym (length_dct3 x ∙ N))
        (λ i l. at_place i (quarter q i (omega (arith, length_merged))))

pub dct3_split : (q : ℕ) → Length (4 * q) → (x : List ℕ) → length x ≡ 4 * q
    → merge_three residue_ops residue_twiddles q (dct3_sum (input_evens residue_ops q x)) (dct3_sum (input_one residue_ops q x)) (dct3_sum (input_three residue_ops q x)) ≡ dct3_sum x
dct3_split zero L x N = absurd (Nat.lt_irrefl 0 (omega (arith, L.whole)))
dct3_split (suc r) L x N = merged_is r L x N
