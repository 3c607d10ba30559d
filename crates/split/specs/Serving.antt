-- A table of cosines, and two tables of a whole turn, keep what whatever a transform turns by keeps (levels_served, tables_served). Assumes nothing.
use mathlib.Core.Path.{◌≡◌, ◌∙◌}
use mathlib.Core.List.{List}
use Prim.Native.Nat.{ℕ, zero, suc, ◌*◌, ◌^◌, ◌<◌, ◌≤◌}
use native.Mathlib.Nat as Nat
use native.Mathlib.Omega.{arith}
use lib.Ieee.{Float}
use lib.Pow.{pow_mono}
use Rattle.std.specs.Prelude.{⊤}
use Rattle.sums.specs.Residue.{p}
use Rattle.sums.proofs.Cosines.{cosines_bound}
use Rattle.sums.specs.Angle.{cos_of, sin_of}
use Rattle.algorithms.specs.Residues.{residue_twiddles}
use Rattle.floats.specs.Arithmetic.{table_twiddles}
use Rattle.split.specs.declared.twiddles.Levels.{Levels}
use Rattle.split.specs.declared.twiddles.Tables.{Tables}
use Rattle.split.specs.Served.{Power, Served}
use Rattle.split.specs.Tabled.{LevelsOf, TablesOf}

-- an exponent of such a length
few : (n k : ℕ) → n ≡ 2 ^ k → n ≤ 2048 → k ≤ 11
few n k power bound =
    let small : k < 12 = Nat.lt_of_not-le (λ above. omega (arith, pow_mono above, bound, power)) in omega arith

pub levels_bound : {n : ℕ} {t : List ℕ} → LevelsOf n t → n ≤ 2048
levels_bound {n} {t} levels = omega (arith, levels.enough, cosines_bound t levels.cosines)

pub levels_power : {n : ℕ} {t : List ℕ} → LevelsOf n t → Power n
levels_power {n} levels = record { exponent = levels.exponent; small = few n levels.exponent levels.power (levels_bound levels); power = levels.power }

-- a unit is at least one entry
pub unit_some : (u n : ℕ) → u * (4 * n) ≡ 8192 → 1 ≤ u
unit_some zero n is = absurd (let no : ⊥ = omega arith in no)
unit_some (suc u) n is = omega arith

pub tables_bound : {u n : ℕ} {cosines sines : List Float} → TablesOf u n cosines sines → n ≤ 2048
tables_bound {u} {n} tables =
    let whole : u * (4 * n) ≡ 8192 = tables.whole ∙ tables.turn in
    let most : 4 * n ≤ 4 * n * u = Nat.le-mul_of_pos_right (4 * n) (unit_some u n whole) in omega (arith, Nat.mul_comm u (4 * n))

pub tables_power : {u n : ℕ} {cosines sines : List Float} → TablesOf u n cosines sines → Power n
tables_power {u} {n} tables = record { exponent = tables.exponent; small = few n tables.exponent tables.power (tables_bound tables); power = tables.power }

cos_below : (k : ℕ) → cos_of k < p
unfolding cos_of
cos_below k = Nat.mod-lt _ (omega arith)

sin_below : (k : ℕ) → sin_of k < p
unfolding sin_of
sin_below k = Nat.mod-lt _ (omega arith)

pub levels_served : Served (λ (a : ℕ). a < p) (λ (by : Levels). residue_twiddles) (λ by n. LevelsOf n by.table.now)
levels_served = record { power = λ by n levels. levels_power levels; cos = λ by a b. cos_below _; sin = λ by a b. sin_below _ }

pub tables_served : Served (λ (a : Float). ⊤) (λ (by : Tables). table_twiddles by.whole.now.cosines.now by.whole.now.sines.now)
    (λ by n. TablesOf by.unit n by.whole.now.cosines.now by.whole.now.sines.now)
tables_served = record { power = λ by n tables. tables_power tables; cos = λ by a b. tt; sin = λ by a b. tt }
