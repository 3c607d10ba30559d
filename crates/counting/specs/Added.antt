-- Counts that are empty, and counts added up: a sum that would pass the largest number stays there. Assumes nothing.
use Rattle.std.specs.Prelude.{◌≡◌, ◌+◌, min}
use Rattle.counting.specs.declared.count.Count.{Count}
use Rattle.counting.specs.declared.count.Tally.{Tally}

pub record Empty (r : Count) : Type 0 where
  pub all : r.all ≡ 0
  pub good : r.good ≡ 0

pub record Added (a b r : Count) : Type 0 where
  pub all : r.all ≡ min (a.all + b.all) 18446744073709551615
  pub good : r.good ≡ min (a.good + b.good) 18446744073709551615

-- so are all three counts of a tally
pub record AddedUp (a b r : Tally) : Type 0 where
  pub answers : Added a.answers b.answers r.answers
  pub outputs : Added a.outputs b.outputs r.outputs
  pub lent : Added a.lent b.lent r.lent
