-- A table of cosines that serves a length serves its half (levels_half), and the twiddles of a step at 4q entries stand in it (twiddle_cos_is, twiddle_sin_is).
-- Assumes nothing.
use mathlib.Core.Path.{◌≡◌}
use mathlib.Core.List.{List}
use Prim.Native.Nat.{ℕ, ◌+◌, ◌*◌, ◌-◌, ◌<◌, ◌≤◌}
use native.Mathlib.Omega.{arith}
use lib.ListN.{get_or}
use Rattle.ring.proofs.Powers.{half_power}
use Rattle.sums.proofs.Cosines.{cosines_cos, cosines_sin}
use Rattle.algorithms.specs.Residues.{residue_ops, residue_twiddles}
use Rattle.algorithms.specs.Split.{twiddle_cos, twiddle_sin}
use Rattle.split.specs.Tabled.{LevelsOf}

module _ {t : List ℕ} where
  pub levels_half : {n : ℕ} → 1 ≤ n → LevelsOf (2 * n) t → LevelsOf n t
  levels_half {n} some levels = record {
    cosines = levels.cosines;
    exponent = levels.exponent - 1;
    power = half_power levels.exponent n some levels.power;
    enough = omega (arith, levels.enough);
  }

  module _ (q i : ℕ) (levels : LevelsOf (4 * q) t) (below : i < q) where
    quarter : LevelsOf q t
    quarter =
        let twice : 4 * q ≡ 2 * (2 * q) = omega arith in
        levels_half (omega arith) (levels_half (omega arith) (rw twice at levels))

    pub twiddle_cos_is : get_or t (2 * q - 1 + i) 0 ≡ twiddle_cos residue_ops residue_twiddles q i
    twiddle_cos_is = cosines_cos t levels.cosines quarter.exponent q quarter.power levels.enough i below

    pub twiddle_sin_is : get_or t (4 * q - 2 - i) 0 ≡ twiddle_sin residue_ops residue_twiddles q i
    twiddle_sin_is = cosines_sin t levels.cosines quarter.exponent q quarter.power levels.enough i below
