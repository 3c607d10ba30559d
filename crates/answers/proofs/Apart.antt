-- What an answer says tells answers apart (says_apart): the answer can be read off it again. Assumes nothing.
use mathlib.Core.Path.{◌≡◌, refl, sym, ◌∙◌, ap}
use mathlib.Core.List.{List, [], ◌∷◌}
use Prim.Native.Nat.{ℕ, ◌-◌}
use lib.ListN.{get_or}
use Rattle.answers.specs.declared.Refusal.{Refusal}
use Rattle.answers.specs.declared.Refusal.TheVariants.{Size, Length, Residue, Window, BrokenTray, OtherUnit, NumberZero, NotHeld, AlreadyHeld, Full, NothingHeld, BeyondCurve}
use Rattle.std.specs.Prelude.{Result, Ok, Err}
use Rattle.answers.specs.Number.{number_of}
use Rattle.answers.specs.Said.{Said, accepted, refused, says}

-- the refusals in the order of the table, from 1 on
refusals : List Refusal
refusals =
    Size ∷ Length ∷ Residue ∷ Window ∷ BrokenTray ∷ OtherUnit ∷ NumberZero ∷ NotHeld ∷ AlreadyHeld ∷ Full ∷ NothingHeld ∷ BeyondCurve ∷ []

refusal_of : ℕ → Refusal
refusal_of number = get_or refusals (number - 1) Size

refusal_back : (r : Refusal) → refusal_of (number_of r) ≡ r
unfolding refusals refusal_of
refusal_back Size = refl
refusal_back Length = refl
refusal_back Residue = refl
refusal_back Window = refl
refusal_back BrokenTray = refl
refusal_back OtherUnit = refl
refusal_back NumberZero = refl
refusal_back NotHeld = refl
refusal_back AlreadyHeld = refl
refusal_back Full = refl
refusal_back NothingHeld = refl
refusal_back BeyondCurve = refl

-- the answer that says it
answer_of : Said → Result (Unit {0}) Refusal
answer_of (accepted values) = Ok tt
answer_of (refused number values) = Err (refusal_of number)

answer_back : (a : Result (Unit {0}) Refusal) → answer_of (says a) ≡ a
unfolding answer_of
answer_back (Ok done) = refl
answer_back (Err r) = ap Err (refusal_back r)

pub says_apart : (a b : Result (Unit {0}) Refusal) → says a ≡ says b → a ≡ b
says_apart a b same = sym (answer_back a) ∙ ap answer_of same ∙ answer_back b
