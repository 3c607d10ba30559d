-- What the inner functions ask of what they are lent. Assumes nothing.
use Rattle.std.specs.Prelude.{◌≡◌, List, ℕ, ◌*◌, ◌<◌, length}
use Rattle.sums.specs.Residue.{Powers, Residues}
use Rattle.algorithms.specs.Ops.{Ops}
use Rattle.numbers.specs.Closed.{AllFit}

module _ {A C : Type 0} (O : Ops A) (Fits : A → Type 0) (turn : C → ℕ) (sound : C → Type 0) where
  -- one sum: a table of a whole turn, numbers, and two places of the table
  pub record SumReady (circle : C) (x : List A) (begin : A) (first step : ℕ) : Type 0 where
    pub circles : sound circle
    pub numbers : AllFit O Fits x
    pub begins : Fits begin
    pub first_below : first < turn circle
    pub step_below : step < turn circle

  -- a list of sums: the same, and four places
  pub record SumsReady (circle : C) (x : List A) (begin : A) (first firstMore step stepMore : ℕ) : Type 0 where
    pub sum : SumReady circle x begin first step
    pub first_more_below : firstMore < turn circle
    pub step_more_below : stepMore < turn circle

  -- a transform of N entries, whose angles are parts of 1/(parts · N) of a turn: unit places make up one such part
  pub record Ready (circle : C) (parts unit : ℕ) (x out : List A) : Type 0 where
    pub circles : sound circle
    pub numbers : AllFit O Fits x
    pub same : length out ≡ length x
    pub whole : unit * (parts * length x) ≡ turn circle

-- the same where the table is lent alone: a table of powers, and residues
pub record Tabled (parts unit : ℕ) (table x out : List ℕ) : Type 0 where
  pub powers : Powers table
  pub residues : Residues x
  pub same : length out ≡ length x
  pub whole : unit * (parts * length x) ≡ length table
