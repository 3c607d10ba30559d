-- The figure at a place of document 01's list, (a) at 0 to (l) at 11. Assumes nothing.
use Rattle.std.specs.Prelude.{List, [], ℕ, get_or}
use Rattle.sums.specs.Figure.{stated_figures}

abbrev pub stated : ℕ → List ℕ
stated place = get_or stated_figures place []
