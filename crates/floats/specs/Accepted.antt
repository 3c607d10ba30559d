-- What the inner part of a call may rely on once its tests are passed, by the lengths of what is lent. Assumes nothing.
use Rattle.std.specs.Prelude.{◌≡◌, ℕ, ◌*◌, ◌^◌, ◌%◌, ◌≤◌}

-- a naive transform in place of n entries: two tables of 4n
pub record NaiveAccepted (n cosines sines buffer scratch : ℕ) : Type 0 where
  pub some : 1 ≤ n
  pub small : n ≤ 1024
  pub cosines_length : cosines ≡ 4 * n
  pub sines_length : sines ≡ 4 * n
  pub whole : buffer ≡ n
  pub room : n ≤ scratch

-- n is a power of two from `least` to 1024
pub record Size (least n : ℕ) : Type 0 where
  pub exponent : ℕ
  pub small : exponent ≤ 10
  pub power : n ≡ 2 ^ exponent
  pub enough : least ≤ n

-- a fast transform in place of n entries: two tables of 8,192
pub record FastAccepted (least n cosines sines buffer scratch : ℕ) : Type 0 where
  pub size : Size least n
  pub cosines_length : cosines ≡ 8192
  pub sines_length : sines ≡ 8192
  pub whole : buffer ≡ n
  pub room : n ≤ scratch

-- the slices of an MDCT or IMDCT of n: three of n entries, a window of 2n, and scratch for `parts` times n
pub record Block (parts n a b c w scratch : ℕ) : Type 0 where
  pub a_length : a ≡ n
  pub b_length : b ≡ n
  pub c_length : c ≡ n
  pub window_length : w ≡ 2 * n
  pub room : parts * n ≤ scratch

-- of the naive ones, n is even and from 2 to 1024, and there is one table of 4n
pub record NaiveBlock (n table a b c w scratch : ℕ) : Type 0 where
  pub even : n % 2 ≡ 0
  pub enough : 2 ≤ n
  pub small : n ≤ 1024
  pub table_length : table ≡ 4 * n
  pub block : Block 0 n a b c w scratch

-- of the fast ones there are two tables of 8,192
pub record FastBlock (n cosines sines a b c w scratch : ℕ) : Type 0 where
  pub size : Size 2 n
  pub cosines_length : cosines ≡ 8192
  pub sines_length : sines ≡ 8192
  pub block : Block 2 n a b c w scratch
