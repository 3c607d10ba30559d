-- Before each turn the entries passed are copied, and the others are as they were.
use mathlib.Core.Path.{◌≡◌}
use Rattle.numbers.proofs.Copied.{copying}
use Rattle.numbers.proofs.copy.Given as goal

abbrev pub invariant-loop-i : goal.invariant-loop-i
invariant-loop-i g l = l.to ≡ copying l.i l.from l.initial.to
