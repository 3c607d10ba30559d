-- Over residues the fast transforms of one and of two entries are the defining sums, and these are what the leaves compute. Assumes nothing.
use mathlib.Core.Path.{◌≡◌, refl, sym, ◌∙◌, ap}
use mathlib.Core.List.{List, [], ◌∷◌}
use Prim.Native.Nat.{ℕ, zero, suc, ◌^◌, ◌<◌, ◌≤◌}
use native.Mathlib.Omega.{arith}
use lib.ListN.{length}
use lib.Pow.{pow_pos}
use Rattle.sums.specs.Residue.{p}
use Rattle.sums.specs.Angle.{cos_turn}
use Rattle.sums.specs.Transform.{dct2_sum, dct3_sum}
use Rattle.sums.proofs.Cosines.{cosines_first, cosines_below}
use Rattle.sums.proofs.Lengths.{Length}
use Rattle.sums.proofs.Outputs.{dct3_residues}
use Rattle.algorithms.specs.Ops.{at}
use Rattle.algorithms.specs.Lists.{reversed, alternated}
use Rattle.algorithms.specs.Residues.{residue_ops, residue_twiddles}
use Rattle.algorithms.specs.Fast.{dct2_fast, dst2_fast, dct3_fast, dst3_fast}
use Rattle.algorithms.proofs.Fast.{dct2_leaf, dst2_leaf, dct3_leaf, dst3_leaf}
use Rattle.algorithms.proofs.Leaves.{dct2_single, dct2_pair, dct3_single, dct3_pair}
use Rattle.algorithms.proofs.Lists.{length_reversed, length_alternated}
use Rattle.algorithms.proofs.Naive.{naive_dct2_is, naive_dst2_is, naive_dct3_is, naive_dst3_is}
use Rattle.algorithms.proofs.ShortLists.{set_single, set_pair}
use Rattle.algorithms.proofs.Sines.{dst2_by_dct2, dst3_by_dct3}
use Rattle.numbers.specs.Closed.{AllFit}
use Rattle.leaves.proofs.Changed.{alternated_fits, reversed_fits}

-- such a length goes into a quarter of a turn
short_length : (n : ℕ) → 1 ≤ n → n ≤ 2 → Length n
short_length zero some short = absurd (omega arith)
short_length (suc zero) some short = record { step = 2048; whole = refl }
short_length (suc (suc zero)) some short = record { step = 1024; whole = refl }
short_length (suc (suc (suc n))) some short = absurd (omega arith)

module _ (x : List ℕ) (some : 1 ≤ length x) (short : length x ≤ 2) where
  dct2_is : dct2_fast residue_ops residue_twiddles x ≡ dct2_sum x
  dct2_is = dct2_leaf residue_ops residue_twiddles x some short ∙ naive_dct2_is x (short_length (length x) some short)

  dct3_is : dct3_fast residue_ops residue_twiddles x ≡ dct3_sum x
  dct3_is = dct3_leaf residue_ops residue_twiddles x some short ∙ naive_dct3_is x (short_length (length x) some short)

  pub dct3_fits : AllFit residue_ops (λ (a : ℕ). a < p) (dct3_fast residue_ops residue_twiddles x)
  dct3_fits = rw dct3_is (record { each = (dct3_residues x).below })

module _ (x : List ℕ) where
  pub dct2_one : length x ≡ 1 → AllFit residue_ops (λ (a : ℕ). a < p) x → dct2_fast residue_ops residue_twiddles x ≡ x
  dct2_one size numbers = dct2_is x (omega arith) (omega arith) ∙ dct2_single x size (record { below = numbers.each })

  pub dct2_two : length x ≡ 2
      → dct2_fast residue_ops residue_twiddles x
      ≡ residue_ops.add (at residue_ops x 0) (at residue_ops x 1)
      ∷ residue_ops.mul (residue_ops.sub (at residue_ops x 0) (at residue_ops x 1)) (cos_turn 1 8) ∷ []
  dct2_two size = dct2_is x (omega arith) (omega arith) ∙ dct2_pair x size

  pub dct3_one : length x ≡ 1 → dct3_fast residue_ops residue_twiddles x ≡ residue_ops.halve (at residue_ops x 0) ∷ []
  dct3_one size = dct3_is x (omega arith) (omega arith) ∙ dct3_single x size

  pub dct3_two : length x ≡ 2
      → dct3_fast residue_ops residue_twiddles x
      ≡ residue_ops.add (residue_ops.halve (at residue_ops x 0)) (residue_ops.mul (at residue_ops x 1) (cos_turn 1 8))
      ∷ residue_ops.sub (residue_ops.halve (at residue_ops x 0)) (residue_ops.mul (at residue_ops x 1) (cos_turn 1 8)) ∷ []
  dct3_two size = dct3_is x (omega arith) (omega arith) ∙ dct3_pair x size

-- the sines around the cosines
module _ (x : List ℕ) (e : ℕ) (power : length x ≡ 2 ^ e) (short : length x ≤ 2) where
  some : 1 ≤ length x
  some = omega (arith, pow_pos e)

  pub dst2_is : dst2_fast residue_ops residue_twiddles x ≡ reversed residue_ops (dct2_fast residue_ops residue_twiddles (alternated residue_ops x))
  dst2_is =
      let same = length_alternated residue_ops x in
      dst2_leaf residue_ops residue_twiddles x some short ∙ naive_dst2_is x (short_length (length x) some short)
      ∙ sym (ap (reversed residue_ops) (dct2_is (alternated residue_ops x) (omega (arith, some)) (omega arith))
      ∙ dst2_by_dct2 x (short_length (length x) some short))

  pub dst3_is : dst3_fast residue_ops residue_twiddles x ≡ alternated residue_ops (dct3_fast residue_ops residue_twiddles (reversed residue_ops x))
  dst3_is =
      let same = length_reversed residue_ops x in
      dst3_leaf residue_ops residue_twiddles x some short ∙ naive_dst3_is x (short_length (length x) some short)
      ∙ sym (ap (alternated residue_ops) (dct3_is (reversed residue_ops x) (omega (arith, some)) (omega arith))
      ∙ dst3_by_dct3 x (short_length (length x) some short))

-- with the stores of one and of two entries, and the table's first cosine
pub ruleset as_sums = (
  dct2_one,
  dct2_two,
  dct3_one,
  dct3_two,
  dct3_fits,
  dst2_is,
  dst3_is,
  set_single,
  set_pair,
  cosines_first,
  cosines_below,
  alternated_fits,
  reversed_fits,
)
