-- DCT-II's step as the code has it, where the three inner vectors are parts of one list. What the split leaves is the three inner inputs (inputs_parted), a turn of the
-- merge's loop reads each value at its place in the list (Merging, merging_start, merging_more, merging_end), and the merge is that of the three parts (parts_merged_are). Over any
-- arithmetic. Assumes nothing.
use mathlib.Core.Path.{◌≡◌, refl, ◌∙◌}
use mathlib.Core.List.{List}
use Prim.Native.Nat.{ℕ, ◌+◌, ◌*◌, ◌-◌, ◌<◌, ◌≤◌}
use native.Mathlib.Omega.{arith}
use lib.ListN.{length, set}
use Rattle.ring.specs.Part.{part}
use Rattle.ring.proofs.Parts.{Parts, part_first, part_second, part_third, part_entry}
use Rattle.algorithms.specs.Ops.{Ops, Twiddles, at}
use Rattle.algorithms.specs.Lists.{turned}
use Rattle.algorithms.specs.Split.{input_dct2, input_dct4_even, input_dct4_odd, split_two, merge_two}
use Rattle.algorithms.proofs.Inputs.{length_half, length_cosines, length_sines}
use Rattle.algorithms.proofs.StepTwo.{split_two_is, Merged, sin_output_is, merged_start, merged_more, merged_end}

pub inputs_parted : {A : Type 0} (O : Ops A) (W : Twiddles A) (q : ℕ) (x : List A) {l : List A} → l ≡ split_two O W q x
    → Parts q (input_dct2 O q x) (input_dct4_even O W q x) (input_dct4_odd O W q x) l
inputs_parted O W q x is = record {
  half = length_half O W q x;
  third_quarter = length_cosines O W q x;
  fourth_quarter = length_sines O W q x;
  is = is ∙ split_two_is O W q x;
}

module _ {A : Type 0} (O : Ops A) (q : ℕ) where
  -- the merge of the three parts of s
  abbrev pub parts_merged : List A → List A
  parts_merged s = merge_two O q (part 0 (2 * q) s) (part (2 * q) (3 * q) s) (part (3 * q) (4 * q) s)

  pub parts_merged_are : {h c d l : List A} → Parts q h c d l → parts_merged l ≡ merge_two O q h c d
  parts_merged_are parts =
      let first = part_first parts in
      let second = part_second parts in
      let third = part_third parts in
      cc

  pub record Merging (s d : List A) (i : ℕ) (out : List A) : Type 0 where
    pub merged : Merged O q (part 0 (2 * q) s) (part (2 * q) (3 * q) s) (part (3 * q) (4 * q) s) d i out

  pub merging_start : (s d : List A) → 1 ≤ q → length d ≡ 4 * q
      → Merging s (set (set (set d 0 (at O s 0)) 1 (at O s (2 * q))) 2 (at O s 1)) 1 (set (set (set d 0 (at O s 0)) 1 (at O s (2 * q))) 2 (at O s 1))
  merging_start s d some size = record {
    merged = merged_start O q (part 0 (2 * q) s) (part (2 * q) (3 * q) s) (part (3 * q) (4 * q) s) d some size
        (part_entry O.none s 0 (2 * q) 0 0 (omega arith) refl) (part_entry O.none s (2 * q) (3 * q) 0 (2 * q) (omega arith) (omega arith))
        (part_entry O.none s 0 (2 * q) 1 1 (omega arith) refl);
  }

  module _ {s d : List A} {i : ℕ} {out : List A} (merging : Merging s d i out) where
    pub merging_more : {sin t v : A} → i < q → sin ≡ turned O (i + q + 1) (at O s (4 * q - i)) → t ≡ O.add (at O s (2 * q + i)) sin
        → v ≡ O.sub (at O s (2 * q + i)) sin
        → Merging s d (i + 1) (set (set (set (set out (4 * i - 1) t) (4 * i) (at O s (2 * i))) (4 * i + 1) v) (4 * i + 2) (at O s (2 * i + 1)))
    merging_more below sin-is is-plus is-minus =
        let some = merging.merged.some in
        record {
          merged = merged_more O q _ _ _ merging.merged below (part_entry O.none s (2 * q) (3 * q) i (2 * q + i) (omega arith) refl)
              (sin_output_is O q (part 0 (2 * q) s) (part (2 * q) (3 * q) s) (part (3 * q) (4 * q) s) i sin-is
              (part_entry O.none s (3 * q) (4 * q) (q - i) (4 * q - i) (omega arith) (omega arith)))
              is-plus (part_entry O.none s 0 (2 * q) (2 * i) (2 * i) (omega arith) (omega arith)) is-minus
              (part_entry O.none s 0 (2 * q) (2 * i + 1) (2 * i + 1) (omega arith) (omega arith));
        }

    pub merging_end : {v : A} → q ≤ i → v ≡ O.neg (at O s (3 * q)) → set out (4 * q - 1) v ≡ parts_merged s
    merging_end past is =
        let some = merging.merged.some in
        let within = merging.merged.within in
        merged_end O q _ _ _ merging.merged past (part_entry O.none s (3 * q) (4 * q) 0 (3 * q) (omega arith) (omega arith)) is
