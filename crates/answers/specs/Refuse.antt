-- Document 01, "Numbers for no": a refusal is given exactly where its test fails, and the first in the stated order is the one given. A chain of these states such an
-- order, by the table's numbers. Assumes nothing.
use Rattle.std.specs.Prelude.{Bool, true, false, [], ℕ}
use Rattle.answers.specs.Said.{Said, refused}

-- refused by the number if the test says so, else what the rest says
abbrev pub refuse : Bool → ℕ → Said → Said
refuse true number rest = refused number []
refuse false number rest = rest
