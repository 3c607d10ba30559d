-- `float_words::words::push_words` meets its contract: the words so far and those that are still to come are those of before and the first of the file. Assumes nothing.
use mir.Syntax.{w64}
use Rattle.std.specs.Prelude.{◌≡◌, ◌+◌, ◌-◌, ◌++◌, length, map, take}
use Rattle.std.specs.Int.{from_le_bytes}
use Rattle.float_words.specs.Words.{words_of}
use Rattle.float_words.proofs.words.push_words.Given as goal

abbrev pub invariant-loop-word : goal.invariant-loop-word
invariant-loop-word g l =
    (l.words.items ++ map (from_le_bytes w64) (take l.word-iterator.n l.word-iterator.iter.rest.now) ≡ l.initial.words.items ++ take (g.row.N - length l.initial.words.items) (words_of l.bytes))
    × (length l.words.items + l.word-iterator.n ≡ g.row.N)
