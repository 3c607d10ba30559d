-- What a sum over the sizes that pass a test owes to the size at hand: its tally is added where it passes (size_taken), and it is left out where not (size_left_out).
-- The sum begins with nothing (from_nothing), and ends where no size is left (sizes_ended). Assumes nothing.
use mathlib.Core.Path.{◌≡◌, refl, subst}
use mathlib.Core.Bool.{Bool, true, false}
use mathlib.Core.List.{List, ◌∷◌}
use Prim.Native.Nat.{ℕ, ◌+◌, ◌<◌, ◌≤◌}
use lib.ListN.{length, get_or, drop, drop_of_length-le}
use Rattle.std.specs.Prelude.{cond}
use Rattle.std.specs.List.{filter, FoldsTo}
use Rattle.std.proofs.lemmas.List.{at_drop_more}
use Rattle.counting.specs.declared.count.Tally.{Tally}
use Rattle.counting.specs.Sizes.{CountsAt, SumsUp}

module _ (counts : ℕ → Tally → Type 0) (test : ℕ → Bool) (xs : List ℕ) (i : ℕ) (inside : i < length xs) where
  at_hand : filter test (drop i xs) ≡ cond (test (get_or xs i 0)) (get_or xs i 0 ∷ filter test (drop (i + 1) xs)) (filter test (drop (i + 1) xs))
  at_hand = at_drop_more (filter test) xs i 0 inside

  pub size_taken : test (get_or xs i 0) ≡ true → (before after now all : Tally) → CountsAt counts before (get_or xs i 0) after → now ≡ after → FoldsTo (CountsAt counts) now (filter test (drop (i + 1) xs)) all → FoldsTo (CountsAt counts) before (filter test (drop i xs)) all
  size_taken passes before after now all step is rest =
      rw at_hand (rw passes (after, step, subst (λ sum. FoldsTo (CountsAt counts) sum (filter test (drop (i + 1) xs)) all) is rest))

  pub size_left_out : test (get_or xs i 0) ≡ false → (before now all : Tally) → now ≡ before → FoldsTo (CountsAt counts) now (filter test (drop (i + 1) xs)) all → FoldsTo (CountsAt counts) before (filter test (drop i xs)) all
  size_left_out fails before now all is rest =
      rw at_hand (rw fails (subst (λ sum. FoldsTo (CountsAt counts) sum (filter test (drop (i + 1) xs)) all) is rest))

-- none is left
pub sizes_ended : (counts : ℕ → Tally → Type 0) (test : ℕ → Bool) (xs : List ℕ) (i : ℕ) → length xs ≤ i → (sum : Tally) → FoldsTo (CountsAt counts) sum (filter test (drop i xs)) sum
sizes_ended counts test xs i past sum = rw (drop_of_length-le xs past) refl

abbrev of_numbers : ℕ → ℕ → ℕ → ℕ → ℕ → ℕ → Tally
of_numbers a b c d e f =
    record {
      answers = record { all = a; good = b };
      outputs = record { all = c; good = d };
      lent = record { all = e; good = f };
    }

all_nought : (a b c d e f : ℕ) → a ≡ 0 → b ≡ 0 → c ≡ 0 → d ≡ 0 → e ≡ 0 → f ≡ 0 → of_numbers a b c d e f ≡ of_numbers 0 0 0 0 0 0
all_nought a b c d e f is-a is-b is-c is-d is-e is-f = rw is-a (rw is-b (rw is-c (rw is-d (rw is-e (rw is-f refl)))))

pub from_nothing : (counts : ℕ → Tally → Type 0) (sizes : List ℕ) (start all : Tally)
    → (start.answers.all ≡ 0 × start.answers.good ≡ 0) × ((start.outputs.all ≡ 0 × start.outputs.good ≡ 0) × (start.lent.all ≡ 0 × start.lent.good ≡ 0))
    → FoldsTo (CountsAt counts) start sizes all → SumsUp counts sizes all
from_nothing counts sizes start all none counted =
    subst (λ tally. FoldsTo (CountsAt counts) tally sizes all)
    (all_nought start.answers.all start.answers.good start.outputs.all start.outputs.good start.lent.all start.lent.good none.0.0 none.0.1 none.1.0.0 none.1.0.1 none.1.1.0 none.1.1.1)
    counted
