-- What scratch holds before and after an accepted call. Assumes nothing.
use Rattle.std.specs.Prelude.{Bool, true, false, List, ℕ, ◌+◌, ◌%◌, ltb}
use Rattle.ring.specs.Finite.{tab}

abbrev pub zero_or : Bool → ℕ → ℕ
zero_or true m = 0
zero_or false m = m

-- zero below n, and from there on a number that is no residue
abbrev pub mark_or_zero : ℕ → ℕ → ℕ
mark_or_zero n k = zero_or (ltb k n) (4000000000 + k % 1000)

-- that of all places of scratch
unfoldable pub marked : ℕ → ℕ → List ℕ
marked n length = tab length (mark_or_zero n)
