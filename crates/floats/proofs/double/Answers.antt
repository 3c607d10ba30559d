-- `floats::double` meets its contract: the literal's bits are read. Assumes nothing.
use mathlib.Core.Path.{refl}
use lib.Ieee.{of_bits}
use Rattle.floats.proofs.double.Goals as goal

pub returns : goal.returns
unfolding of_bits
returns c = refl
