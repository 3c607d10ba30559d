-- `mdct_naive::after_segment` meets its contract: n steps of 2k + 1 are n places or 3n, whole turns taken off. Assumes nothing.
use mathlib.Core.Path.{◌∙◌}
use Rattle.mdct_naive.proofs.Segment.{segment_even, segment_odd}
use Rattle.mdct_naive.proofs.after_segment.Goals as goal

pub returns-then-k-eq0 : goal.returns-then-k-eq0
returns-then-k-eq0 c = c.further.ensures ∙ segment_even _ _ _ c.if-k-eq0.true

pub returns-else-k-eq0 : goal.returns-else-k-eq0
returns-else-k-eq0 c = c.further-else-k-eq0.ensures ∙ segment_odd _ _ _ c.if-k-eq0.false
