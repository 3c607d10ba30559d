-- How much scratch a call needs, and which calls a case is about. Assumes nothing.
use Rattle.std.specs.Prelude.{Bool, true, false, ℕ, ◌*◌}
use Rattle.mdct_lent.specs.declared.call.Call.{Call}
use Rattle.mdct_lent.specs.declared.call.Calls.{Calls}
use Rattle.mdct_lent.specs.declared.call.Transform.{Transform}
use Rattle.mdct_lent.specs.declared.call.Way.{Way}
use Rattle.mdct_lent.specs.declared.call.Calls.TheVariants as calls
use Rattle.mdct_lent.specs.declared.call.Transform.TheVariants as transform
use Rattle.mdct_lent.specs.declared.call.Way.TheVariants as way

abbrev pub scratch_of : Way → ℕ → ℕ
scratch_of way.Naive n = 0
scratch_of way.Fast n = 2 * n

abbrev pub is_fast : Way → Bool
is_fast way.Naive = false
is_fast way.Fast = true

abbrev pub is_mdct : Transform → Bool
is_mdct transform.Mdct = true
is_mdct transform.Imdct = false

abbrev pub is_imdct : Transform → Bool
is_imdct transform.Mdct = false
is_imdct transform.Imdct = true

abbrev pub has : Calls → Call → Bool
has calls.All call = true
has calls.Fast call = is_fast call.way
has calls.Mdct call = is_mdct call.transform
has calls.Imdct call = is_imdct call.transform
