-- Document 01, "Two arithmetics", residues: cos and sin. Assumes nothing.
use Rattle.std.specs.Prelude.{ℕ, ◌+◌, ◌*◌, ◌^◌, ◌%◌, ◌/◌}
use Rattle.sums.specs.Residue.{p, half, minus_one, g, g⁻¹, j⁻¹}

-- cos at k/8192 of a turn: (g^k + g^−k)/2
unfoldable pub cos_of : ℕ → ℕ
cos_of k = (g ^ k + g⁻¹ ^ k) * half % p

-- sin at k/8192 of a turn: (g^k − g^−k)/(2j)
unfoldable pub sin_of : ℕ → ℕ
sin_of k = (g ^ k + minus_one * g⁻¹ ^ k) * (half * j⁻¹) % p

-- cos and sin at a/b of a turn, where b divides 8192. An angle πa/b of the sums is a/(2b) of a turn
abbrev pub cos_turn : ℕ → ℕ → ℕ
cos_turn a b = cos_of (a * (8192 / b))

abbrev pub sin_turn : ℕ → ℕ → ℕ
sin_turn a b = sin_of (a * (8192 / b))
