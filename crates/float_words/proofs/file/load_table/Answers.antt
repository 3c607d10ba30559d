-- `float_words::file::load_table` meets its contract: every place was passed. Assumes nothing.
use Rattle.std.proofs.Common.{rules}
use Rattle.std.proofs.lemmas.List.FromFn.{fill_by_all}
use Rattle.floats.specs.Arithmetic.{float_zero}
use Rattle.float_words.specs.Words.{eighth_at}
use Rattle.float_words.proofs.file.load_table.Goals as goal

pub returns : goal.returns
returns c = fill_by_all (eighth_at c.args.words.now c.args.from) c.loop-place.table 8192 float_zero (search rules) (search rules)
