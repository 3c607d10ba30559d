-- `float_words::file::load_table` meets its contract: the places passed hold their entries. Assumes nothing.
use Rattle.std.specs.Prelude.{◌≡◌, ℕ, ◌<◌, slice_index_or}
use Rattle.floats.specs.Arithmetic.{float_zero}
use Rattle.float_words.specs.Words.{eighth_at}
use Rattle.float_words.proofs.file.load_table.Given as goal

abbrev pub invariant-loop-place : goal.invariant-loop-place
invariant-loop-place l = (k : ℕ) → k < l.place → slice_index_or l.table k float_zero ≡ eighth_at l.words l.from k
