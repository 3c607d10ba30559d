-- Document 01, "Numbers for no" and "Where to use each form": what an answer says is this paper's number for it and then its values. Every public promise is stated with it.
-- Assumes nothing.
use Rattle.std.specs.Prelude.{List, [], ℕ, Result, Ok, Err}
use Rattle.answers.specs.declared.Refusal.{Refusal}
use Rattle.answers.specs.Number.{number_of}

-- an accepted call gives its values; a refused one gives the number in document 01's table and the values that go with it
pub data Said : Type 0 where
  accepted : List ℕ → Said
  refused : ℕ → List ℕ → Said

-- no answer carries a value so far
abbrev pub says : Result (Unit {0}) Refusal → Said
says (Ok done) = accepted []
says (Err r) = refused (number_of r) []

-- the number alone, where 0 is no refusal
abbrev pub said_number : Said → ℕ
said_number (accepted values) = 0
said_number (refused number values) = number
