-- `float_words::words::nan_pattern` meets its contract: by the two cases of its first test. Assumes nothing.
use borrow.Author.Tests.{eq-eqb, ne_eqb}
use lib.Ieee.{nan_bits}
use Rattle.float_words.proofs.words.nan_pattern.Goals as goal

pub returns-then-word-eq2047 : goal.returns-then-word-eq2047
unfolding nan_bits
returns-then-word-eq2047 c = rw (eq-eqb _ _ c.if-word-eq2047.true)

pub returns-else-word-eq2047 : goal.returns-else-word-eq2047
unfolding nan_bits
returns-else-word-eq2047 c = rw (ne_eqb _ _ c.if-word-eq2047.false)
