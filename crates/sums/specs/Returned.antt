-- What a call of the C interface returns and leaves: the promised outcome, with the number alone of what its answer says. Assumes nothing.
use Rattle.std.specs.Prelude.{◌≡◌, List, ℕ}
use Rattle.answers.specs.Said.{Said, said_number}
use Rattle.sums.specs.Call.{Outcome, outcome, Spread, spread}

-- the number is that of the promised answer, where 0 is accepted, and both slices hold what is promised
pub record Returned {A : Type 0} (number : ℕ) (buffer scratch : List A) (promised : Outcome A) : Type 0 where
  pub answer : Said
  pub numbered : number ≡ said_number answer
  pub left : outcome answer buffer scratch ≡ promised

-- the same of a call that leaves two outputs and its scratch
pub record ReturnedSpread {A : Type 0} (number : ℕ) (first second scratch : List A) (promised : Spread A) : Type 0 where
  pub answer : Said
  pub numbered : number ≡ said_number answer
  pub left : spread answer first second scratch ≡ promised

-- the same of a call that stores nothing
pub record ReturnedAnswer (number : ℕ) (promised : Said) : Type 0 where
  pub answer : Said
  pub numbered : number ≡ said_number answer
  pub left : answer ≡ promised
