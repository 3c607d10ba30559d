-- What an accepted call may do: lend a table of cosines to the transform (accepted_served, accepted_numbers), which leaves the defining sum (fast_sum). Assumes nothing.
use mathlib.Core.Path.{◌≡◌, ◌∙◌}
use mathlib.Core.List.{List}
use Prim.Native.Nat.{ℕ, suc, ◌+◌, ◌*◌, ◌<◌, ◌≤◌}
use native.Mathlib.Nat as Nat
use native.Mathlib.Omega.{arith}
use lib.Dec.{T}
use lib.ListN.{length}
use Rattle.sums.specs.Cosines.{Cosines}
use Rattle.sums.specs.Residue.{p}
use Rattle.sums.specs.Size.{allowed_size}
use Rattle.sums.proofs.Sizes.{exponent_allowed}
use Rattle.algorithms.specs.Residues.{residue_ops, residue_twiddles}
use Rattle.algorithms.proofs.FastSums.{dct4_fast_is, dst4_fast_is}
use Rattle.lending.specs.Accepted.{Accepted}
use Rattle.numbers.specs.Closed.{AllFit}
use Rattle.split.specs.Tabled.{LevelsOf}
use Rattle.type4_plans.specs.declared.Transform.{Transform}
use Rattle.type4_plans.specs.declared.Transform.TheVariants.{Dct4, Dst4}
use Rattle.type4_plans.specs.Routine.{fast_by}
use Rattle.type4_plans.specs.Sum.{sum_by}

module _ {n k : ℕ} {buffer : List ℕ} (a : Accepted 2 n buffer k) where
  pub accepted_numbers : AllFit residue_ops (λ (r : ℕ). r < p) buffer
  accepted_numbers = record { each = a.residues.below }

  allowed : T (allowed_size 2 (length buffer))
  allowed = rw (a.whole ∙ a.power) (exponent_allowed 2 a.exponent a.small (omega (arith, a.power, a.enough)))

  pub fast_sum : (which : Transform) → fast_by which residue_ops residue_twiddles buffer ≡ sum_by which buffer
  fast_sum Dct4 = dct4_fast_is buffer allowed
  fast_sum Dst4 = dst4_fast_is buffer allowed

  pub accepted_served : {table : List ℕ} → Cosines table → 2 * n ≤ length table + 1 → LevelsOf (2 * length buffer) table
  accepted_served cosines enough = record {
    cosines = cosines;
    exponent = suc a.exponent;
    power = omega (arith, a.whole, a.power, Nat.pow-suc 2 a.exponent);
    enough = omega (arith, a.whole);
  }
