-- Right and wrong lengths of slices. Assumes nothing.
use Rattle.std.specs.Prelude.{ℕ, ◌+◌, ◌-◌, ◌*◌}
use Rattle.mdct_lent.specs.declared.case.Case.{Case}
use Rattle.mdct_lent.specs.declared.case.Slice.{Slice}
use Rattle.mdct_lent.specs.declared.case.Slice.TheVariants.{First, Second, Third, Window}
use Rattle.mdct_lent.specs.declared.case.Wrong.{Wrong}
use Rattle.mdct_lent.specs.declared.case.Wrong.TheVariants.{OneShort, OneLong, Empty}

-- how many entries a slice has in a block of n
abbrev pub entries_of : Slice → ℕ → ℕ
entries_of First n = n
entries_of Second n = n
entries_of Third n = n
entries_of Window n = 2 * n

-- how many entries of a slice a case lends
abbrev pub lent_of : Slice → Case → ℕ
lent_of First case = case.first.entries
lent_of Second case = case.second.entries
lent_of Third case = case.third.entries
lent_of Window case = case.window.entries

-- in place of a length that is right
abbrev pub length_of : Wrong → ℕ → ℕ
length_of OneShort right = right - 1
length_of OneLong right = right + 1
length_of Empty right = 0
