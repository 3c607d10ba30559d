-- Two tables of a whole turn that serve a length serve its half with a unit twice as large (tables_half), and the twiddles of a step at 4q entries stand in them
-- (turned_cos_is, turned_sin_is), at a place of the tables (turned_place) that fits (turned_few). Assumes nothing.
use mathlib.Core.Path.{◌≡◌, sym, ◌∙◌, ap}
use mathlib.Core.List.{List}
use Prim.Native.Nat.{ℕ, ◌+◌, ◌*◌, ◌-◌, ◌/◌, ◌<◌, ◌≤◌}
use native.Mathlib.Nat as Nat
use native.Mathlib.Omega.{arith}
use lib.Ieee.{Float, nan}
use lib.ListN.{length, get_or}
use Rattle.ring.proofs.Powers.{half_power}
use Rattle.algorithms.specs.Split.{twiddle_cos, twiddle_sin}
use Rattle.floats.specs.Arithmetic.{float_ops, turn_entry, table_twiddles}
use Rattle.split.specs.Tabled.{TablesOf}
use Rattle.split.specs.Serving.{unit_some}

-- a places of a unit, of which b make up the table, are a/b of it
pub turn_entry_is : (table : List Float) (unit a b : ℕ) → unit * b ≡ length table → 1 ≤ b → get_or table (a * unit) nan ≡ turn_entry table a b
turn_entry_is table unit a b whole some =
    let units : length table / b ≡ unit = ap (λ (n : ℕ). n / b) (sym whole) ∙ Nat.mul-div_cancel unit some in
    ap (λ (u : ℕ). get_or table (a * u) nan) (sym units)

module _ {unit n : ℕ} {cosines sines : List Float} (some : 1 ≤ n) (tables : TablesOf unit (2 * n) cosines sines) where
  twice : (u n : ℕ) → 2 * u * (4 * n) ≡ u * (4 * (2 * n))
  twice u n = omega arith

  pub tables_half : TablesOf (2 * unit) n cosines sines
  tables_half = record {
    whole = twice unit n ∙ tables.whole;
    same = tables.same;
    turn = tables.turn;
    exponent = tables.exponent - 1;
    power = half_power tables.exponent n some tables.power;
  }

  pub tables_unit : 2 * unit ≤ 8192
  tables_unit =
      let whole : 2 * unit * (4 * n) ≡ 8192 = twice unit n ∙ tables.whole ∙ tables.turn in
      let most : 2 * unit ≤ 2 * unit * (4 * n) = Nat.le-mul_of_pos_right (2 * unit) (omega arith) in omega arith

module _ {unit q : ℕ} {cosines sines : List Float} (tables : TablesOf unit (4 * q) cosines sines) (i : ℕ) (below : i < q) where
  sixteen : unit * (16 * q) ≡ length cosines
  sixteen = many unit q ∙ tables.whole
    where
      many : (u q : ℕ) → u * (16 * q) ≡ u * (4 * (4 * q))
      many u q = omega arith

  pub turned_cos_is : get_or cosines ((2 * i + 1) * unit) nan ≡ twiddle_cos float_ops (table_twiddles cosines sines) q i
  turned_cos_is = turn_entry_is cosines unit (2 * i + 1) (16 * q) sixteen (omega arith)

  pub turned_sin_is : get_or sines ((2 * i + 1) * unit) nan ≡ twiddle_sin float_ops (table_twiddles cosines sines) q i
  turned_sin_is = turn_entry_is sines unit (2 * i + 1) (16 * q) (sixteen ∙ sym tables.same) (omega arith)

  some_unit : 1 ≤ unit
  some_unit = unit_some unit (4 * q) (tables.whole ∙ tables.turn)

  -- what reading it asks
  pub turned_place : (2 * i + 1) * unit < 8192
  turned_place =
      let less : (2 * i + 1) * unit < 16 * q * unit = Nat.mul-lt-mul_of_pos_right (omega arith) some_unit in
      omega (arith, sixteen, tables.turn, Nat.mul_comm (16 * q) unit, less)

  pub turned_few : i < 512
  turned_few =
      let most : 16 * q ≤ 16 * q * unit = Nat.le-mul_of_pos_right (16 * q) some_unit in
      omega (arith, sixteen, tables.turn, most, Nat.mul_comm (16 * q) unit)
