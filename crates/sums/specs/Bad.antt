-- Document 01, "Numbers for no", 3: a residue is p or more. Assumes nothing.
use Rattle.std.specs.Prelude.{Bool, true, ◌&&◌, if◌then◌else◌, Option, Some, None, List, [], ◌∷◌, ℕ, length, leb, eqb}
use Rattle.ring.specs.Finite.{first_place}
use Rattle.sums.specs.Residue.{p}

-- the place of the first entry that is p or more, or the length where there is none
abbrev pub first_bad : List ℕ → ℕ
first_bad x = first_place (leb p) x

-- that place, and none where no entry is bad
abbrev pub found_bad : List ℕ → Option ℕ
found_bad x = if eqb (first_bad x) (length x) then None else Some (first_bad x)

-- every entry is below p
unfoldable pub sound_entries : List ℕ → Bool
sound_entries x = eqb (first_bad x) (length x)

-- so is every entry of each of several slices, which are searched in this order
abbrev pub sound_slices : List (List ℕ) → Bool
sound_slices [] = true
sound_slices (slice ∷ rest) = sound_entries slice && sound_slices rest
