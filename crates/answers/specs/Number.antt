-- Document 01, "Numbers for no": the number of each refusal. Assumes nothing.
use Rattle.std.specs.Prelude.{ℕ}
use Rattle.answers.specs.declared.Refusal.{Refusal}
use Rattle.answers.specs.declared.Refusal.TheVariants.{Size, Length, Residue, Window, BrokenTray, OtherUnit, NumberZero, NotHeld, AlreadyHeld, Full, NothingHeld, BeyondCurve}

abbrev pub number_of : Refusal → ℕ
number_of Size = 1
number_of Length = 2
number_of Residue = 3
number_of Window = 4
number_of BrokenTray = 5
number_of OtherUnit = 6
number_of NumberZero = 7
number_of NotHeld = 8
number_of AlreadyHeld = 9
number_of Full = 10
number_of NothingHeld = 11
number_of BeyondCurve = 12
