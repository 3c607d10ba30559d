-- Document 01, "Two arithmetics", residues: the modulus and its constants, as plain numbers. Divisions are mod p:
-- each inverse is named here, and `sums.proofs.Constants` shows that it is one. Assumes nothing.
use Rattle.std.specs.Prelude.{ℕ, ◌+◌, ◌*◌, ◌^◌, ◌%◌, ◌/◌, ◌<◌, ◌≡◌, List, length, get_or}
use Rattle.ring.specs.Finite.{tab}

-- p = 998244353 = 119·2^23 + 1
abbrev pub p : ℕ
p = 998244353

-- 1/2
abbrev pub half : ℕ
half = 499122177

-- −1. A difference x − y is written x + minus_one · y, so that no number is cut off at 0
abbrev pub minus_one : ℕ
minus_one = 998244352

-- g = 3^121856 mod p, of order 8192
unfoldable pub g : ℕ
g = 3 ^ 121856 % p

-- 1/g
unfoldable pub g⁻¹ : ℕ
g⁻¹ = g ^ 8191 % p

-- j = g^2048, and 1/j
unfoldable pub j : ℕ
j = g ^ 2048 % p

unfoldable pub j⁻¹ : ℕ
j⁻¹ = g⁻¹ ^ 2048 % p

-- √2 means g^1024 + g^−1024; 1/√2 is √2/2
unfoldable pub √2 : ℕ
√2 = (g ^ 1024 + g⁻¹ ^ 1024) % p

unfoldable pub √2⁻¹ : ℕ
√2⁻¹ = √2 * half % p

-- every entry is a residue, a number below p
pub record Residues (x : List ℕ) : Type 0 where
  pub below : (k : ℕ) → k < length x → get_or x k 0 < p

-- the powers of g at k/n of a turn, for k from 0 to n − 1
unfoldable pub powers_table : ℕ → List ℕ
powers_table n = tab n (λ k. g ^ (k * (8192 / n)) % p)

-- a lent table of powers of g, whose length divides the turn
pub record Powers (t : List ℕ) : Type 0 where
  pub whole : 8192 / length t * length t ≡ 8192
  pub rule : t ≡ powers_table (length t)
