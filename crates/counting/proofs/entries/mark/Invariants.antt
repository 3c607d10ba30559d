-- `counting::entries::mark` meets its contract: the places passed hold their marks.
-- Assumes nothing.
use mathlib.Core.Path.{◌≡◌}
use Prim.Native.Nat.{ℕ, ◌<◌}
use lib.ListN.{get_or}
use Rattle.counting.specs.Lent.{mark_or_zero}
use Rattle.counting.proofs.entries.mark.Given as goal

abbrev pub invariant-loop-place : goal.invariant-loop-place
invariant-loop-place l = (k : ℕ) → k < l.place → get_or l.scratch k 0 ≡ mark_or_zero 0 k
