-- `counting::entries::fill` meets its contract: the places passed hold residues, and the state is below the generator's modulus.
-- Assumes nothing.
use Prim.Native.Nat.{ℕ, ◌<◌}
use lib.ListN.{get_or}
use Rattle.sums.specs.Residue.{p}
use Rattle.counting.proofs.entries.fill.Given as goal

abbrev pub invariant-loop-entry : goal.invariant-loop-entry
invariant-loop-entry l = record {
  residues : (k : ℕ) → k < l.entry-index → get_or l.out k 0 < p;
  state : l.state < 2147483647;
}
