-- What an accepted MDCT or IMDCT lends to the routine over any numbers, a fast one (block_ready) and a naive one (mdct_ready, imdct_ready), whose table is its circle
-- (circle_table). Assumes nothing.
use mathlib.Core.Path.{◌≡◌, sym, ◌∙◌}
use mathlib.Core.List.{List}
use Prim.Native.Nat.{ℕ, suc, ◌*◌, ◌≤◌}
use native.Mathlib.Nat as Nat
use native.Mathlib.Omega.{arith}
use lib.Ieee.{Float}
use lib.ListN.{length}
use Rattle.std.specs.Prelude.{⊤}
use Rattle.floats.specs.Accepted.{FastBlock, NaiveBlock}
use Rattle.floats.specs.Arithmetic.{float_ops, turn_entry}
use Rattle.mdct_fast.specs.Block as Ready
use Rattle.mdct_naive.specs.Ready as Naive
use Rattle.naive_sums.specs.Circled.{read_table}
use Rattle.naive_sums.specs.declared.circle.Entries.{Entries}
use Rattle.naive_sums.proofs.Entries.{entries_read}
use Rattle.numbers.specs.Closed.{AllFit}
use Rattle.split.specs.Tabled.{TablesOf}
use Rattle.split.specs.declared.twiddles.Tables.{Tables}

abbrev any : Float → Type 0
any v = ⊤

abbrev serves : Tables → ℕ → Type 0
serves by n = TablesOf by.unit n by.whole.now.cosines.now by.whole.now.sines.now

pub all : (x : List Float) → AllFit float_ops any x
all x = record { each = λ k l. tt }

pub block_ready : {by : Tables} {n k : ℕ} {a b c w : List Float}
    → FastBlock n (length by.whole.now.cosines.now) (length by.whole.now.sines.now) (length a) (length b) (length c) (length w) k → by.unit * n ≡ 1024
    → Ready.Block float_ops any serves by n a b c w k
block_ready {by} {n} {w = w} block units = record {
  served = record {
    whole = omega (arith, twice by.unit n, units, block.cosines_length);
    same = block.sines_length ∙ sym block.cosines_length;
    turn = block.cosines_length;
    exponent = suc block.size.exponent;
    power = omega (arith, block.size.power, Nat.pow-suc 2 block.size.exponent);
  };
  enough = block.size.enough;
  a_length = block.block.a_length;
  b_length = block.block.b_length;
  c_length = block.block.c_length;
  window_length = block.block.window_length;
  room = block.block.room;
  window_numbers = all w;
}
  where
    twice : (u n : ℕ) → u * (4 * (2 * n)) ≡ 8 * (u * n)
    twice u n = omega arith

-- a table is a circle of as many places
abbrev turn : Entries → ℕ
turn by = length by.table.now

abbrev sound : Entries → Type 0
sound by = (1 ≤ length by.table.now) × (length by.table.now ≤ 8192)

turned : {by : Entries} {n a b c : ℕ} {w : List Float} → NaiveBlock n (length by.table.now) a b c (length w) 0 → Naive.Turned float_ops any turn sound by n w
turned {w = w} block = record {
  circles = (omega (arith, block.table_length, block.enough), omega (arith, block.table_length, block.small));
  whole = block.table_length;
  even = block.even;
  enough = block.enough;
  small = block.small;
  window_length = block.block.window_length;
  weights = all w;
}

module _ {by : Entries} {n : ℕ} {a b c w : List Float} (block : NaiveBlock n (length by.table.now) (length a) (length b) (length c) (length w) 0) where
  pub mdct_ready : Naive.MdctReady float_ops any turn sound by n a b c w
  mdct_ready = record {
    turned = turned block;
    first_length = block.block.a_length;
    second_length = block.block.b_length;
    output_length = block.block.c_length;
    first_numbers = all a;
    second_numbers = all b;
  }

  pub imdct_ready : Naive.ImdctReady float_ops any turn sound by n a b c w
  imdct_ready = record {
    adds_first = record {
      turned = turned block;
      input_length = block.block.a_length;
      output_length = block.block.b_length;
      input_numbers = all a;
      output_numbers = all b;
    };
    adds_second = record {
      turned = turned block;
      input_length = block.block.a_length;
      output_length = block.block.c_length;
      input_numbers = all a;
      output_numbers = all c;
    };
  }

pub circle_table : {n a b c w : ℕ} (table : List Float) → NaiveBlock n (length table) a b c w 0 → read_table (turn_entry table) (4 * n) ≡ table
circle_table table block = entries_read table block.table_length (omega (arith, block.enough))
