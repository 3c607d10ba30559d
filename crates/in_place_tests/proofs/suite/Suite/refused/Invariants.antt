-- `in_place_tests::suite::Suite::refused` is safe: a call leaves the length of its buffer.
-- Assumes nothing.
use Rattle.std.proofs.Common.{◌≡◌, length}
use Rattle.in_place_tests.proofs.suite.Suite.refused.Given as goal

abbrev pub invariant-loop-call : goal.invariant-loop-call
invariant-loop-call g l = length l.buffer.items ≡ length l.before.items
