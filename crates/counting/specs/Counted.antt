-- What is counted of answers and of entries. Assumes nothing.
use Rattle.std.specs.Prelude.{Bool, true, false, List, ℕ, zero, suc, ◌+◌, eqb, get_or}

abbrev pub one : Bool → ℕ
one true = 1
one false = 0

-- at how many of the first n places two lists hold the same
unfoldable pub alike : ℕ → List ℕ → List ℕ → ℕ
alike zero x y = 0
alike (suc n) x y = alike n x y + one (eqb (get_or x n 0) (get_or y n 0))
