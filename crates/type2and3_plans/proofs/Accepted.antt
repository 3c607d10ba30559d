-- What an accepted call may do: ask for the unit of its length (accepted_doubled), lend the table of powers to the sums (table_sound, table_whole), or a table of cosines to
-- split radix (accepted_levels). And either plan leaves the defining sum (fast_sum, naive_sum). Assumes nothing.
use mathlib.Core.Path.{◌≡◌, refl, sym, ◌∙◌, ap}
use mathlib.Core.List.{List}
use Prim.Native.Nat.{ℕ, ◌+◌, ◌*◌, ◌<◌, ◌≤◌}
use native.Mathlib.Omega.{arith}
use lib.Dec.{T}
use lib.ListN.{length}
use Rattle.sums.specs.Angle.{cos_turn, sin_turn}
use Rattle.sums.specs.Cosines.{Cosines}
use Rattle.sums.specs.Residue.{p, Powers, powers_table}
use Rattle.sums.specs.Size.{allowed_size}
use Rattle.sums.proofs.Powers.{powers_length, table_powers}
use Rattle.sums.proofs.Sizes.{exponent_allowed}
use Rattle.algorithms.specs.Residues.{residue_ops, residue_twiddles}
use Rattle.algorithms.specs.Naive.{naive_dct2, naive_dst2, naive_dct3, naive_dst3}
use Rattle.algorithms.proofs.FastSums.{dct2_fast_is, dst2_fast_is, dct3_fast_is, dst3_fast_is}
use Rattle.lending.specs.Accepted.{Accepted}
use Rattle.naive_sums.specs.Ready.{Tabled}
use Rattle.naive_sums.proofs.Residues.{dct2_reads, dst2_reads, dct3_reads, dst3_reads}
use Rattle.numbers.specs.Closed.{AllFit}
use Rattle.places.specs.Doubled.{Doubled}
use Rattle.split.specs.Tabled.{LevelsOf}
use Rattle.type2and3_plans.specs.declared.Transform.{Transform}
use Rattle.type2and3_plans.specs.declared.Transform.TheVariants.{Dct2, Dst2, Dct3, Dst3}
use Rattle.type2and3_plans.specs.Routine.{fast_by, naive_by, twiddles_of}
use Rattle.type2and3_plans.specs.Sum.{sum_by}

module _ {n k : ℕ} {buffer : List ℕ} (a : Accepted 1 n buffer k) where
  pub accepted_doubled : Doubled n
  accepted_doubled = record { times = a.exponent; small = a.small; power = a.power }

  pub accepted_numbers : AllFit residue_ops (λ (r : ℕ). r < p) buffer
  accepted_numbers = record { each = a.residues.below }

  allowed : T (allowed_size 1 (length buffer))
  allowed = rw (a.whole ∙ a.power) (exponent_allowed 1 a.exponent a.small (omega (arith, a.power, a.enough)))

  pub fast_sum : (which : Transform) → fast_by which residue_ops residue_twiddles buffer ≡ sum_by which buffer
  fast_sum Dct2 = dct2_fast_is buffer allowed
  fast_sum Dst2 = dst2_fast_is buffer allowed
  fast_sum Dct3 = dct3_fast_is buffer allowed
  fast_sum Dst3 = dst3_fast_is buffer allowed

  pub accepted_levels : {table : List ℕ} → Cosines table → n ≤ length table + 1 → LevelsOf (length buffer) table
  accepted_levels cosines enough = record {
    cosines = cosines;
    exponent = a.exponent;
    power = a.whole ∙ a.power;
    enough = omega (arith, a.whole);
  }

  -- the table of powers, of which `unit` entries make up 1/(8n) of a turn
  module _ (unit : ℕ) {table : List ℕ} (units : unit * n ≡ 1024) (is : table ≡ powers_table 8192) where
    pub table_length : length table ≡ 8192
    table_length = ap length is ∙ powers_length 8192

    pub table_whole : 2 * unit * (4 * length buffer) ≡ length table
    table_whole = ap (λ (m : ℕ). 2 * unit * (4 * m)) a.whole ∙ omega (arith, units) ∙ sym table_length

    pub table_sound : Powers table
    table_sound = table_powers 8192 table refl is

    tabled : Tabled 4 (2 * unit) table buffer buffer
    tabled = record { powers = table_sound; residues = a.residues; same = refl; whole = table_whole }

    pub naive_sum : (which : Transform) → naive_by which residue_ops (twiddles_of cos_turn sin_turn) buffer ≡ sum_by which buffer
    unfolding naive_dct2 naive_dst2 naive_dct3 naive_dst3
    naive_sum Dct2 = dct2_reads tabled
    naive_sum Dst2 = dst2_reads tabled
    naive_sum Dct3 = dct3_reads tabled
    naive_sum Dst3 = dst3_reads tabled
