-- `float_words::words::same` meets its contract: what it returns is `alike`, by the cases of its tests. Assumes nothing.
use mathlib.Core.Path.{◌≡◌}
use lib.Dec.{eqb}
use lib.Ieee.{binary64, to_bits}
use Rattle.std.proofs.Common.{rules}
use Rattle.float_words.specs.Words.{alike}
use Rattle.float_words.proofs.Bits.{alike_only}
use Rattle.float_words.proofs.words.same.Goals as goal

pub returns-then-is_nan-clause-exact : goal.returns-then-is_nan-clause-exact
unfolding alike
returns-then-is_nan-clause-exact c =
    let value : c.is_nan-then-is_nan.result ≡ alike c.args.a c.args.b = search rules in
    rw value (alike_only _ _ c.well_formed.0.1 c.well_formed.1.0.1)

pub returns-then-not-is_nan-clause-exact : goal.returns-then-not-is_nan-clause-exact
unfolding alike
returns-then-not-is_nan-clause-exact c =
    let value : eqb (to_bits binary64 c.args.a) (to_bits binary64 c.args.b) ≡ alike c.args.a c.args.b = search rules in
    rw value (alike_only _ _ c.well_formed.0.1 c.well_formed.1.0.1)
