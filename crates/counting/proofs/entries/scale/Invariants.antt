-- `counting::entries::scale` meets its contract: the places passed hold their products, and the others what they held.
-- Assumes nothing.
use mathlib.Core.Path.{◌≡◌}
use Prim.Native.Nat.{◌*◌, ◌%◌}
use lib.ListN.{length, get_or}
use Rattle.sums.specs.Residue.{p, half}
use Rattle.ring.proofs.Filled.{Filled}
use Rattle.counting.proofs.entries.scale.Given as goal

abbrev pub invariant-loop-entry : goal.invariant-loop-entry
invariant-loop-entry l = record {
  factor : l.factor ≡ length l.initial.out * half % p;
  scaled : Filled 0 (λ k. length l.initial.out * half * get_or l.initial.out k 0 % p) l.initial.out l.entry-index l.out;
}
