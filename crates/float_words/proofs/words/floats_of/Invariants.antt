-- `float_words::words::floats_of` meets its contract: the words passed are the floats so far. Assumes nothing.
use Rattle.std.specs.Prelude.{◌≡◌, map, take}
use Rattle.float_words.specs.Words.{float_of}
use Rattle.float_words.proofs.words.floats_of.Given as goal

abbrev pub invariant-loop-word : goal.invariant-loop-word
invariant-loop-word g l = l.floats.items ≡ map float_of (take l.word-index l.words)
