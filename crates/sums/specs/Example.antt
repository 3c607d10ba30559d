-- Worked examples beyond the twelve figures, for the definitions that those leave out: DST-IV, and a reading of two shots of two segments.
-- `sums.proofs.Figures` computes them. Assumes nothing.
use Rattle.std.specs.Prelude.{List, [], ◌∷◌, map, ℕ, ◌*◌, ◌%◌, ℤ, pos, negsuc}
use Rattle.sums.specs.Residue.{p, minus_one}
use Rattle.sums.specs.Transform.{entry, dct4_sum, dst4_sum}
use Rattle.sums.specs.Window.{flat_window}
use Rattle.sums.specs.Curve.{pooled_blocks, residues_of, reading_of}

abbrev pub computed_examples : List (List ℕ)
computed_examples =
    dst4_sum (dst4_sum (1 ∷ 2 ∷ 3 ∷ 4 ∷ []))
    ∷ dst4_sum (1 ∷ 2 ∷ [])
    ∷ []

-- DST-IV twice is N/2 times the input; DST-IV is DCT-IV of the entries read backwards, with every other sign changed
abbrev pub stated_examples : List (List ℕ)
stated_examples =
    (2 ∷ 4 ∷ 6 ∷ 8 ∷ [])
    ∷ (entry (dct4_sum (2 ∷ 1 ∷ [])) 0 ∷ minus_one * entry (dct4_sum (2 ∷ 1 ∷ [])) 1 % p ∷ [])
    ∷ []

-- the bench program's reading of both its shots: MDCT, IMDCT, their overlap, the pool and the signed reading are in it
abbrev pub computed_reading : List ℤ
computed_reading =
    reading_of 2 2 (flat_window 1)
    (pooled_blocks 2 2 (flat_window 1)
    (map residues_of ((pos 10 ∷ negsuc 19 ∷ pos 30 ∷ pos 0 ∷ []) ∷ (pos 1 ∷ pos 1 ∷ pos 1 ∷ pos 1 ∷ []) ∷ [])))

-- 11, −19, 31, 1
abbrev pub stated_reading : List ℤ
stated_reading = pos 11 ∷ negsuc 18 ∷ pos 31 ∷ pos 1 ∷ []
