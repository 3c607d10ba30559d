-- `float_words::words::words_of` meets its contract: its chunks are the words. Assumes nothing.
use Rattle.std.proofs.Common.{rules}
use Rattle.float_words.proofs.Read.{words_are}
use Rattle.float_words.proofs.words.words_of.Goals as goal

pub returns : goal.returns
returns c = rw (← words_are c.args.bytes.now) (search rules)
