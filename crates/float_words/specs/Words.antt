-- A file of bytes as words of eight bytes, the least byte first, and the floats whose bits they are. Assumes nothing.
use Rattle.std.specs.Prelude.{Bool, not, ◌&&◌, cond, List, ℕ, ◌+◌, ◌*◌, ◌/◌, ◌%◌, eqb, ltb, Float, is_nan, length, get_or, map}
use Rattle.std.specs.List.{range_with_len}
use Rattle.std.specs.Float.{binary64}
use Rattle.std.specs.Float.Ieee.{of_bits, to_bits}
use Rattle.ring.specs.Finite.{tab}
use Rattle.floats.specs.Arithmetic.{float_zero}

-- two, four and eight bytes from a place on
abbrev pub two_bytes : List ℕ → ℕ → ℕ
two_bytes bytes place = get_or bytes place 0 + 256 * get_or bytes (place + 1) 0

abbrev pub four_bytes : List ℕ → ℕ → ℕ
four_bytes bytes place = two_bytes bytes place + 65536 * two_bytes bytes (place + 2)

abbrev pub eight_bytes : List ℕ → ℕ → ℕ
eight_bytes bytes place = four_bytes bytes place + 4294967296 * four_bytes bytes (place + 4)

-- the word number `at`, and 0 where the file has no such word
unfoldable pub word_at : List ℕ → ℕ → ℕ
word_at bytes at = cond (ltb at (length bytes / 8)) (eight_bytes bytes (8 * at)) 0

-- all whole words of a file
unfoldable pub words_of : List ℕ → List ℕ
words_of bytes = tab (length bytes / 8) (word_at bytes)

abbrev pub float_of : ℕ → Float
float_of word = of_bits binary64 word

-- both are NaN, or both have the same bits
unfoldable pub alike : Float → Float → Bool
alike a b = cond (is_nan a) (is_nan b) (not (is_nan b) && eqb (to_bits binary64 a) (to_bits binary64 b))

-- a table of n entries of which only every eighth is recorded, in the words from the word number `at` on; the others are zero
abbrev pub eighth_at : List ℕ → ℕ → ℕ → Float
eighth_at words at k = cond (eqb (k % 8) 0) (float_of (get_or words (at + k / 8) 0)) float_zero

abbrev pub eighths : ℕ → List ℕ → ℕ → List Float
eighths n words at = map (eighth_at words at) (range_with_len 0 n)
