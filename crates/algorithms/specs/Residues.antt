-- The arithmetic of residues, as document 01 has it: every operation ends with `% p`, and a difference adds −1 times what is taken away. Assumes nothing.
use Rattle.std.specs.Prelude.{ℕ, ◌+◌, ◌*◌, ◌%◌}
use Rattle.sums.specs.Residue.{p, half, minus_one}
use Rattle.sums.specs.Angle.{cos_turn, sin_turn}
use Rattle.algorithms.specs.Ops.{Ops, Twiddles}

abbrev pub residue_ops : Ops ℕ
residue_ops = record {
  none = 0;
  nought = 0;
  add = λ a b. (a + b) % p;
  sub = λ a b. (a + minus_one * b) % p;
  mul = λ a b. a * b % p;
  neg = λ a. minus_one * a % p;
  double = λ a. 2 * a % p;
  halve = λ a. a * half % p;
}

abbrev pub residue_twiddles : Twiddles ℕ
residue_twiddles = record { cos = cos_turn; sin = sin_turn }
