-- The cosines that split radix turns by, as one table: for M = 1, 2, 4, .. the M cosines at odd multiples of 1/(8M) of a turn, up to a quarter of a turn,
-- one level after the other. A transform of N entries of type 2 or 3 turns by levels below N, which are N − 1 entries;
-- one of type 4 turns by level N as well. Assumes nothing.
use Rattle.std.specs.Prelude.{◌≡◌, List, [], ◌++◌, ℕ, zero, suc, ◌+◌, ◌*◌, ◌^◌, ◌≤◌}
use Rattle.ring.specs.Finite.{tab}
use Rattle.sums.specs.Angle.{cos_turn}

-- the cosines at (2i + 1)/(8M) of a turn, for i from 0 to M − 1
unfoldable pub cosines_level : ℕ → List ℕ
cosines_level M = tab M (λ i. cos_turn (2 * i + 1) (8 * M))

-- the levels 1, 2, 4, .. below 2^k
unfoldable pub cosines_table : ℕ → List ℕ
cosines_table zero = []
cosines_table (suc k) = cosines_table k ++ cosines_level (2 ^ k)

-- a lent table of cosines, of angles that the turn of 8192 units has
pub record Cosines (t : List ℕ) : Type 0 where
  pub levels : ℕ
  pub small : levels ≤ 11
  pub rule : t ≡ cosines_table levels
