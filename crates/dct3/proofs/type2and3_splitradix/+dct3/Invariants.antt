-- The length falls with each call of a transform by a step, and a step is shorter than the transform that takes it.
use Rattle.std.proofs.Common.{◌+◌, ◌*◌, length}
use Rattle.dct3.proofs.type2and3_splitradix.+dct3.Given as goal

abbrev pub decreases-dct3 : goal.decreases-dct3
decreases-dct3 g l = 2 * length l.x.now + 1

abbrev pub decreases-step : goal.decreases-step
decreases-step g l = 2 * length l.x.now
