-- What is counted of a case. Assumes nothing.
use Rattle.std.specs.Prelude.{◌≡◌, ℕ, ◌-◌}
use Rattle.counting.specs.declared.count.Count.{Count}
use Rattle.counting.specs.declared.count.Tally.{Tally}

-- all there were, of which so many were wrong
pub record Counted (all wrong : ℕ) (r : Count) : Type 0 where
  pub whole : r.all ≡ all
  pub rest : r.good ≡ all - wrong

-- one call, with so many outputs compared and so many entries of scratch looked at
pub record Replayed (outputs scratch : ℕ) (r : Tally) : Type 0 where
  pub one_call : r.answers.all ≡ 1
  pub all_outputs : r.outputs.all ≡ outputs
  pub all_scratch : r.lent.all ≡ scratch
