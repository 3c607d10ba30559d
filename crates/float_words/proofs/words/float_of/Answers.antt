-- `float_words::words::float_of` meets its contract: each NaN's pattern is read as the one NaN. Assumes nothing.
use mathlib.Core.Path.{refl, sym, ◌∙◌}
use lib.Ieee.{nan_bits}
use Rattle.float_words.proofs.Bits.{nan_of}
use Rattle.float_words.proofs.words.float_of.Goals as goal

pub returns-then-nan_pattern : goal.returns-then-nan_pattern
unfolding nan_bits
returns-then-nan_pattern c =
    sym (nan_of 0x7ff8_0000_0000_0000 refl) ∙ nan_of _ (sym c.nan_pattern.ensures ∙ c.if-nan_pattern.true)
