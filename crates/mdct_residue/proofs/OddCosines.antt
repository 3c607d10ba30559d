-- What an accepted naive MDCT or IMDCT lends to the routine over any numbers (size_doubled, mdct_ready, imdct_ready), which then leaves the defining sums (mdct_is, imdct_first_is,
-- imdct_second_is): the circle is the odd cosines of the table of all powers, whose unit is 1/(8n) of a turn. Assumes nothing.
use mathlib.Core.Path.{◌≡◌, refl, sym, ◌∙◌, ap}
use mathlib.Core.List.{List, ◌++◌}
use Prim.Native.Nat.{ℕ, ◌+◌, ◌*◌, ◌/◌, ◌≤◌}
use native.Mathlib.Omega.{arith}
use lib.ListN.{length, take, drop}
use Rattle.sums.specs.Residue.{Powers, powers_table}
use Rattle.sums.specs.Angle.{cos_turn}
use Rattle.sums.specs.Transform.{mdct_sum, imdct_sum}
use Rattle.sums.proofs.Powers.{powers_length, table_powers}
use Rattle.sums.proofs.Sizes.{allowed_even}
use Rattle.places.specs.Doubled.{Doubled}
use Rattle.algorithms.specs.Block.{naive_mdct, naive_imdct_first, naive_imdct_second}
use Rattle.algorithms.specs.Residues.{residue_ops}
use Rattle.algorithms.proofs.Block.{naive_mdct_is, naive_imdct_first_is, naive_imdct_second_is}
use Rattle.lending.specs.Accepted.{Block, MdctAccepted, ImdctAccepted}
use Rattle.naive_sums.specs.Circled.{read_table}
use Rattle.naive_sums.specs.declared.circle.OddCosines.{OddCosines}
use Rattle.naive_sums.proofs.Residues.{odd_cosines_read}
use Rattle.mdct_naive.specs.Ready.{Turned, MdctReady, ImdctReady}
use Rattle.mdct_residue.proofs.Accepted.{below, numbers, block_small, allowed}

abbrev turn : OddCosines → ℕ
turn by = by.turn

abbrev sound : OddCosines → Type 0
sound by = Powers by.powers.now × (by.unit * (2 * by.turn) ≡ length by.powers.now)

-- the table that a circle of 4n places is read as
abbrev table : ℕ → List ℕ
table n = read_table (λ a b. cos_turn (2 * (a * (4 * n / b)) + 1) (2 * (4 * n))) (4 * n)

module _ {n k : ℕ} {a b c w : List ℕ} (block : Block 0 n a b c w k) where
  pub size_doubled : Doubled n
  size_doubled = record { times = block.exponent; small = block.small; power = block.power }

  some : 1 ≤ n
  some = omega (arith, block.enough)

  turned : {by : OddCosines} → by.powers.now ≡ powers_table 8192 → by.unit * n ≡ 1024 → by.turn ≡ 4 * n → Turned residue_ops below turn sound by n w
  turned {by} rule units whole = record {
    circles = (table_powers 8192 by.powers.now refl rule, units_whole by.unit by.turn units whole ∙ sym (ap length rule ∙ powers_length 8192));
    whole = whole;
    even = allowed_even n (allowed block);
    enough = block.enough;
    small = omega (arith, block_small block);
    window_length = block.window_length;
    weights = numbers block.window_residues;
  }
    where
      units_whole : (u t : ℕ) → u * n ≡ 1024 → t ≡ 4 * n → u * (2 * t) ≡ 8192
      units_whole u t units whole = omega (arith, units, ap (λ (z : ℕ). u * z) whole)

module _ {n k : ℕ} {first second output w : List ℕ} (m : MdctAccepted 0 n first second output w k) where
  pub mdct_ready : {by : OddCosines} → by.powers.now ≡ powers_table 8192 → by.unit * n ≡ 1024 → by.turn ≡ 4 * n
      → MdctReady residue_ops below turn sound by n first second output w
  mdct_ready rule units whole = record {
    turned = turned m.block rule units whole;
    first_length = m.block.a_length;
    second_length = m.block.b_length;
    output_length = m.block.c_length;
    first_numbers = numbers m.first_residues;
    second_numbers = numbers m.second_residues;
  }

  pub mdct_is : naive_mdct residue_ops n (table n) w first second ≡ mdct_sum n w (first ++ second)
  mdct_is =
      ap (λ (t : List ℕ). naive_mdct residue_ops n t w first second) (odd_cosines_read n (some m.block)) ∙ naive_mdct_is n (allowed m.block) w first second

module _ {n k : ℕ} {input first second w : List ℕ} (m : ImdctAccepted 0 n input first second w k) where
  pub imdct_ready : {by : OddCosines} → by.powers.now ≡ powers_table 8192 → by.unit * n ≡ 1024 → by.turn ≡ 4 * n
      → ImdctReady residue_ops below turn sound by n input first second w
  imdct_ready rule units whole = record {
    adds_first = record {
      turned = turned m.block rule units whole;
      input_length = m.block.a_length;
      output_length = m.block.b_length;
      input_numbers = numbers m.input_residues;
      output_numbers = numbers m.first_residues;
    };
    adds_second = record {
      turned = turned m.block rule units whole;
      input_length = m.block.a_length;
      output_length = m.block.c_length;
      input_numbers = numbers m.input_residues;
      output_numbers = numbers m.second_residues;
    };
  }

  pub imdct_first_is : naive_imdct_first residue_ops n (table n) w input first ≡ take n (imdct_sum n w (first ++ second) input)
  imdct_first_is =
      ap (λ (t : List ℕ). naive_imdct_first residue_ops n t w input first) (odd_cosines_read n (some m.block))
      ∙ naive_imdct_first_is n (allowed m.block) w first second m.block.b_length input

  pub imdct_second_is : naive_imdct_second residue_ops n (table n) w input second ≡ drop n (imdct_sum n w (first ++ second) input)
  imdct_second_is =
      ap (λ (t : List ℕ). naive_imdct_second residue_ops n t w input second) (odd_cosines_read n (some m.block))
      ∙ naive_imdct_second_is n (allowed m.block) w first second m.block.b_length input
