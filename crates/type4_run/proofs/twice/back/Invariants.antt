-- `type4_run::twice::back` is safe: both slices keep their length.
-- Assumes nothing.
use Rattle.std.proofs.Common.{◌≡◌, length}
use Rattle.type4_run.proofs.twice.back.Given as goal

abbrev pub invariant-loop-start : goal.invariant-loop-start
invariant-loop-start l = record {
  can_next : (goal.iterator-loop-start).can_next l.start-iterator;
  finite : (goal.iterator-loop-start).is_finite l.start-iterator;
  buffer : length l.buffer.items ≡ l.n;
  right : length l.right.items ≡ l.n;
}
