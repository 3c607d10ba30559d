-- What a file records of a call on n entries, by its routine. Assumes nothing.
use Rattle.std.specs.Prelude.{List, ◌∷◌, ℕ, ◌*◌}
use Rattle.float_words.specs.declared.routine.Routine.{Routine}
use Rattle.float_words.specs.declared.routine.Routine.TheVariants.{Dct2Naive, Dst2Naive, Dct3Naive, Dst3Naive, Dct2Fast, Dst2Fast, Dct3Fast, Dst3Fast, Dct4Fast, Dst4Fast, MdctNaive, ImdctNaive, MdctFast, ImdctFast}

abbrev pub number_of : Routine → ℕ
number_of Dct2Naive = 0
number_of Dst2Naive = 1
number_of Dct3Naive = 2
number_of Dst3Naive = 3
number_of Dct2Fast = 4
number_of Dst2Fast = 5
number_of Dct3Fast = 6
number_of Dst3Fast = 7
number_of Dct4Fast = 8
number_of Dst4Fast = 9
number_of MdctNaive = 10
number_of ImdctNaive = 11
number_of MdctFast = 12
number_of ImdctFast = 13

-- a whole case: the routine's number, n, and the words of the call
abbrev pub recorded : Routine → ℕ → List ℕ → List ℕ
recorded routine n words = number_of routine ∷ n ∷ words

-- how many words of a call there are
abbrev pub words_of : Routine → ℕ → ℕ
words_of Dct2Naive n = 10 * n
words_of Dst2Naive n = 10 * n
words_of Dct3Naive n = 10 * n
words_of Dst3Naive n = 10 * n
words_of Dct2Fast n = 2 * n
words_of Dst2Fast n = 2 * n
words_of Dct3Fast n = 2 * n
words_of Dst3Fast n = 2 * n
words_of Dct4Fast n = 2 * n
words_of Dst4Fast n = 2 * n
words_of MdctNaive n = 9 * n
words_of ImdctNaive n = 11 * n
words_of MdctFast n = 5 * n
words_of ImdctFast n = 7 * n

-- an IMDCT has two outputs of n entries, any other routine one
abbrev pub outputs_of : Routine → ℕ → ℕ
outputs_of ImdctNaive n = 2 * n
outputs_of ImdctFast n = 2 * n
outputs_of _ n = n

-- how many entries of scratch a call needs
abbrev pub scratch_of : Routine → ℕ → ℕ
scratch_of MdctNaive n = 0
scratch_of ImdctNaive n = 0
scratch_of MdctFast n = 2 * n
scratch_of ImdctFast n = 2 * n
scratch_of _ n = n
