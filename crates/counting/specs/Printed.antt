-- How a count is printed. Assumes nothing.
use Rattle.std.specs.Prelude.{List, ◌++◌, ℕ, codes}
use Rattle.std.specs.Fmt.{decimal}
use Rattle.counting.specs.declared.count.Count.{Count}

abbrev pub count_text : Count → List ℕ
count_text count = decimal count.good ++ codes " of " ++ decimal count.all
