-- What the inner part of a transform may rely on once its tests are passed. Assumes nothing.
use Rattle.std.specs.Prelude.{◌≡◌, List, ℕ, ◌*◌, ◌^◌, ◌≤◌, length}
use Rattle.sums.specs.Residue.{Residues}

-- n is a power of two from `least` to 1024, the buffer has n entries that are residues, and there is scratch for n
pub record Accepted (least n : ℕ) (buffer : List ℕ) (scratchLength : ℕ) : Type 0 where
  pub exponent : ℕ
  pub small : exponent ≤ 10
  pub power : n ≡ 2 ^ exponent
  pub enough : least ≤ n
  pub whole : length buffer ≡ n
  pub room : n ≤ scratchLength
  pub residues : Residues buffer

-- the slices lent to an MDCT or IMDCT of n, once its lengths are tested: three of n entries, a window of 2n that are residues, and scratch for `parts` times n
pub record Block (parts n : ℕ) (a b c w : List ℕ) (scratchLength : ℕ) : Type 0 where
  pub exponent : ℕ
  pub small : exponent ≤ 10
  pub power : n ≡ 2 ^ exponent
  pub enough : 2 ≤ n
  pub a_length : length a ≡ n
  pub b_length : length b ≡ n
  pub c_length : length c ≡ n
  pub window_length : length w ≡ 2 * n
  pub room : parts * n ≤ scratchLength
  pub window_residues : Residues w

-- an MDCT reads its two segments
pub record MdctAccepted (parts n : ℕ) (first second output w : List ℕ) (scratchLength : ℕ) : Type 0 where
  pub block : Block parts n first second output w scratchLength
  pub first_residues : Residues first
  pub second_residues : Residues second

-- an IMDCT reads its input and adds to both outputs
pub record ImdctAccepted (parts n : ℕ) (input first second w : List ℕ) (scratchLength : ℕ) : Type 0 where
  pub block : Block parts n input first second w scratchLength
  pub input_residues : Residues input
  pub first_residues : Residues first
  pub second_residues : Residues second
