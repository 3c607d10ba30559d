-- The cosines and the sines of a table of powers, its cosines at odd places, and a table of floats, keep what a table of a whole turn keeps (cosines_circled, sines_circled,
-- odd_cosines_circled, entries_circled). What stands at a place (odd_cosine, turn_entry_at), and that it is a place of the table of powers (odd_place). Assumes nothing.
use mathlib.Core.Path.{◌≡◌, sym, ◌∙◌, ap}
use mathlib.Core.List.{List}
use Prim.Native.Nat.{ℕ, zero, suc, ◌+◌, ◌*◌, ◌/◌, ◌%◌, ◌<◌, ◌≤◌}
use native.Mathlib.Nat as Nat
use native.Mathlib.Omega.{arith}
use lib.Ieee.{Float, nan}
use lib.ListN.{length, get_or}
use Rattle.std.specs.Prelude.{⊤}
use Rattle.ring.proofs.Factor.{factor_positive, factor_bound}
use Rattle.sums.specs.Residue.{p, Powers}
use Rattle.sums.specs.Angle.{cos_of, sin_of, cos_turn, sin_turn}
use Rattle.sums.proofs.Turns.{turn_positive, turn_bound, cos_units_is, sin_units_is}
use Rattle.floats.specs.Arithmetic.{turn_entry}
use Rattle.naive_sums.specs.declared.circle.Cosines.{Cosines}
use Rattle.naive_sums.specs.declared.circle.Sines.{Sines}
use Rattle.naive_sums.specs.declared.circle.OddCosines.{OddCosines}
use Rattle.naive_sums.specs.declared.circle.Entries.{Entries}
use Rattle.naive_sums.specs.Circled.{Circled}

cos_below : (k : ℕ) → cos_of k < p
unfolding cos_of
cos_below k = Nat.mod-lt _ (omega arith)

sin_below : (k : ℕ) → sin_of k < p
unfolding sin_of
sin_below k = Nat.mod-lt _ (omega arith)

pub cosines_circled : Circled (λ (a : ℕ). a < p) (λ (circle : Cosines). cos_turn) (λ circle. length circle.powers.now) (λ circle. Powers circle.powers.now)
cosines_circled = record {
  some = λ circle powers. turn_positive _ powers.whole;
  small = λ circle powers. turn_bound _ powers.whole;
  number = λ circle a b. cos_below _;
  units = λ circle u a b powers whole. sym (cos_units_is (length circle.powers.now) powers.whole u b whole a);
}

pub sines_circled : Circled (λ (a : ℕ). a < p) (λ (circle : Sines). sin_turn) (λ circle. length circle.powers.now)
    (λ circle. Powers circle.powers.now × (length circle.powers.now % 4 ≡ 0))
sines_circled = record {
  some = λ circle sound. turn_positive _ sound.0.whole;
  small = λ circle sound. turn_bound _ sound.0.whole;
  number = λ circle a b. sin_below _;
  units = λ circle u a b sound whole. sym (sin_units_is (length circle.powers.now) sound.0.whole u b whole a);
}

-- so many places, of which b make up the turn, are as many times what one of b is
turn_part : (turn u b : ℕ) → 1 ≤ turn → u * b ≡ turn → turn / b ≡ u
turn_part turn u zero some whole = absurd (let no : ⊥ = omega arith in no)
turn_part turn u (suc b) some whole = ap (λ (n : ℕ). n / suc b) (sym whole) ∙ Nat.mul-div_cancel u (omega arith)

powers_some : (powers : List ℕ) → Powers powers → 1 ≤ length powers
powers_some powers table = turn_positive _ table.whole

-- where two units make up one of `turn` places
module _ (powers : List ℕ) (unit turn : ℕ) (table : Powers powers) (whole : unit * (2 * turn) ≡ length powers) where
  odd_some : 1 ≤ turn
  odd_some = factor_positive (unit * 2) turn (length powers) (omega (arith, whole)) (powers_some powers table)

  odd_small : turn ≤ 8192
  odd_small =
      let most = turn_bound _ table.whole in
      let below = factor_bound unit (2 * turn) (length powers) whole (powers_some powers table) in
      omega arith

  pub odd_place : (place : ℕ) → place < turn → (2 * place + 1) * unit < length powers
  odd_place place below =
      let some : 0 < unit = factor_positive (2 * turn) unit (length powers) (omega (arith, whole)) (powers_some powers table) in
      let less : (2 * place + 1) * unit < 2 * turn * unit = Nat.mul-lt-mul_of_pos_right (omega arith) some in
      omega (arith, less, whole)

  pub odd_cosine : (place : ℕ) → cos_turn ((2 * place + 1) * unit) (length powers) ≡ cos_turn (2 * (place * (turn / turn)) + 1) (2 * turn)
  odd_cosine place =
      let one : turn / turn ≡ 1 = turn_part turn 1 turn odd_some (omega arith) in
      sym (cos_units_is (length powers) table.whole unit (2 * turn) whole (2 * place + 1))
      ∙ ap (λ (a : ℕ). cos_turn (2 * a + 1) (2 * turn)) (sym (ap (λ (n : ℕ). place * n) one ∙ Nat.mul-one place))

pub odd_cosines_circled
    : Circled (λ (a : ℕ). a < p) (λ (circle : OddCosines) a b. cos_turn (2 * (a * (circle.turn / b)) + 1) (2 * circle.turn)) (λ circle. circle.turn)
    (λ circle. Powers circle.powers.now × (circle.unit * (2 * circle.turn) ≡ length circle.powers.now))
odd_cosines_circled = record {
  some = λ circle sound. odd_some circle.powers.now circle.unit circle.turn sound.0 sound.1;
  small = λ circle sound. odd_small circle.powers.now circle.unit circle.turn sound.0 sound.1;
  number = λ circle a b. cos_below _;
  units = λ circle u a b sound whole.
      let some = odd_some circle.powers.now circle.unit circle.turn sound.0 sound.1 in
      let one : circle.turn / circle.turn ≡ 1 = turn_part circle.turn 1 circle.turn some (omega arith) in
      ap (λ (z : ℕ). cos_turn (2 * z + 1) (2 * circle.turn))
      (ap (λ (n : ℕ). a * u * n) one ∙ Nat.mul-one (a * u) ∙ ap (λ (n : ℕ). a * n) (sym (turn_part circle.turn u b some whole)));
}

-- a places of a unit, of which b make up the table, are a/b of it
entry_is : (table : List Float) (u a b : ℕ) → u * b ≡ length table → 1 ≤ length table → get_or table (a * u) nan ≡ turn_entry table a b
entry_is table u a b whole some = ap (λ (v : ℕ). get_or table (a * v) nan) (sym (turn_part (length table) u b some whole))

pub turn_entry_at : (table : List Float) (a : ℕ) → 1 ≤ length table → get_or table a nan ≡ turn_entry table a (length table)
turn_entry_at table a some = ap (λ (k : ℕ). get_or table k nan) (omega arith) ∙ entry_is table 1 a (length table) (omega arith) some

pub entries_circled : Circled (λ (a : Float). ⊤) (λ (circle : Entries). turn_entry circle.table.now) (λ circle. length circle.table.now)
    (λ circle. (1 ≤ length circle.table.now) × (length circle.table.now ≤ 8192))
entries_circled = record {
  some = λ circle sound. sound.0;
  small = λ circle sound. sound.1;
  number = λ circle a b. tt;
  units = λ circle u a b sound whole. sym (turn_entry_at circle.table.now (a * u) sound.0) ∙ entry_is circle.table.now u a b whole sound.0;
}
