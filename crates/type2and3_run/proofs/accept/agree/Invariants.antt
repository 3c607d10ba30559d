-- `type2and3_run::accept::agree` is safe: both slices keep their length.
-- Assumes nothing.
use Rattle.std.proofs.Common.{◌≡◌, length}
use Rattle.type2and3_run.proofs.accept.agree.Given as goal

abbrev pub invariant-loop-start : goal.invariant-loop-start
invariant-loop-start l = record {
  can_next : (goal.iterator-loop-start).can_next l.start-iterator;
  finite : (goal.iterator-loop-start).is_finite l.start-iterator;
  naive : length l.naive.items ≡ l.n;
  fast : length l.fast.items ≡ l.n;
}
