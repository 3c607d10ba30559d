-- The first, a middle and the last of n places, and the numbers that stand there. Assumes nothing.
use Rattle.std.specs.Prelude.{ℕ, ◌-◌, ◌/◌}
use Rattle.sums.specs.Residue.{p}
use Rattle.counting.specs.declared.cases.Place.{Place}
use Rattle.counting.specs.declared.cases.Place.TheVariants.{First, Middle, Last}
use Rattle.counting.specs.declared.cases.Value.{Value}
use Rattle.counting.specs.declared.cases.Value.TheVariants.{LargestResidue, Modulus, LargestNumber}

abbrev pub place_in : ℕ → Place → ℕ
place_in n First = 0
place_in n Middle = n / 2
place_in n Last = n - 1

abbrev pub number_of : Value → ℕ
number_of LargestResidue = p - 1
number_of Modulus = p
number_of LargestNumber = 4294967295
