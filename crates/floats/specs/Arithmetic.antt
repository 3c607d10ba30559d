-- The arithmetic of f64, in the logic's account of IEEE 754, where there is one NaN and a zero keeps its sign: equal means the same bits, any NaN matching any NaN. And
-- twiddles that are lent as two tables of a whole turn. Assumes nothing.
use Rattle.std.specs.Prelude.{false, List, ℕ, ◌*◌, ◌/◌, pos, negsuc, length, get_or, Float}
use Rattle.std.specs.Float.Ieee as Ieee
use Rattle.std.specs.Float.{nan, fin, binary64}
use Rattle.algorithms.specs.Ops.{Ops, Twiddles}

-- +0.0, 0.5 and 2.0
abbrev pub float_zero : Float
float_zero = fin false 0 (pos 0)

abbrev pub one_half : Float
one_half = fin false 1 (negsuc 0)

abbrev pub two : Float
two = fin false 1 (pos 1)

-- each operation is rounded once
abbrev pub float_ops : Ops Float
float_ops = record {
  none = nan;
  nought = float_zero;
  add = Ieee.add binary64;
  sub = Ieee.sub binary64;
  mul = Ieee.mul binary64;
  neg = Ieee.neg;
  double = λ a. Ieee.mul binary64 a two;
  halve = λ a. Ieee.mul binary64 one_half a;
}

-- the entry at a/b of a turn, in a table whose entries stand evenly over a whole turn
abbrev pub turn_entry : List Float → ℕ → ℕ → Float
turn_entry table a b = get_or table (a * (length table / b)) nan

abbrev pub table_twiddles : List Float → List Float → Twiddles Float
table_twiddles cosines sines = record { cos = turn_entry cosines; sin = turn_entry sines }

-- where only the cosines or only the sines are read
abbrev pub one_table : List Float → Twiddles Float
one_table table = table_twiddles table table
