-- Document 01, "Numbers for no", 2: a lent length differs from the one required, or scratch is too short. Assumes nothing.
use Rattle.std.specs.Prelude.{Bool, ◌&&◌, ℕ, leb, eqb}

-- the buffer is as long as is wanted, and scratch no shorter than is needed: more is accepted
unfoldable pub lengths_fit : ℕ → ℕ → ℕ → ℕ → Bool
lengths_fit buffer wanted scratch needed = eqb buffer wanted && leb needed scratch
