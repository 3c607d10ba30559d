-- When a lent table, or two, serve a transform of n entries, n being a power of two. Assumes nothing.
use Rattle.std.specs.Prelude.{◌≡◌, List, ℕ, ◌+◌, ◌*◌, ◌^◌, ◌≤◌, Float, length}
use Rattle.sums.specs.Cosines.{Cosines}

-- residues: a table of cosines with the levels below n
pub record LevelsOf (n : ℕ) (table : List ℕ) : Type 0 where
  pub cosines : Cosines table
  pub exponent : ℕ
  pub power : n ≡ 2 ^ exponent
  pub enough : n ≤ length table + 1

-- floats: two tables of a whole turn, of which `unit` entries make up 1/(4n)
pub record TablesOf (unit n : ℕ) (cosines sines : List Float) : Type 0 where
  pub whole : unit * (4 * n) ≡ length cosines
  pub same : length sines ≡ length cosines
  pub turn : length cosines ≡ 8192
  pub exponent : ℕ
  pub power : n ≡ 2 ^ exponent
