-- The sizes that the calls allow, and what a test counts at each of them from a least one on. Assumes nothing.
use Rattle.std.specs.Prelude.{List, [], ◌∷◌, ℕ, leb}
use Rattle.std.specs.List.{filter, FoldsTo}
use Rattle.counting.specs.Added.{AddedUp}
use Rattle.counting.specs.declared.count.Tally.{Tally}

abbrev pub sizes : List ℕ
sizes = 1 ∷ 2 ∷ 4 ∷ 8 ∷ 16 ∷ 32 ∷ 64 ∷ 128 ∷ 256 ∷ 512 ∷ 1024 ∷ []

-- those that are no less than the least
abbrev pub sizes_from : ℕ → List ℕ
sizes_from least = filter (λ n. leb least n) sizes

-- nothing was counted
abbrev pub nothing : Tally
nothing =
    record {
      answers = record { all = 0; good = 0 };
      outputs = record { all = 0; good = 0 };
      lent = record { all = 0; good = 0 };
    }

-- at one size more the test counted something, which was added to what was counted before
abbrev pub CountsAt : (ℕ → Tally → Type 0) → Tally → ℕ → Tally → Type 0
CountsAt counts before n after = (tally : Tally) × counts n tally × AddedUp before tally after

-- so was the sum, beginning with nothing, at each of these sizes in their order
abbrev pub SumsUp : (ℕ → Tally → Type 0) → List ℕ → Tally → Type 0
SumsUp counts = FoldsTo (CountsAt counts) nothing
