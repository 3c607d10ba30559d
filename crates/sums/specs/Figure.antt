-- Document 01, "Twelve figures to be shown together": what the definitions give, and what document 01 says they give.
-- `sums.proofs.Figures` proves the two lists equal. Assumes nothing.
use Rattle.std.specs.Prelude.{List, [], ◌∷◌, ℕ}
use Rattle.ring.specs.Finite.{tab}
use Rattle.answers.specs.Said.{said_number}
use Rattle.sums.specs.Residue.{minus_one}
use Rattle.sums.specs.Transform.{dct2_sum, dst2_sum, dct3_sum, dst3_sum, dct4_sum}
use Rattle.sums.specs.Call.{window_answer}

-- (a) to (l). A window's figure is the number of its answer: 0 is accepted
abbrev pub computed_figures : List (List ℕ)
computed_figures =
    dct2_sum (5 ∷ [])
    ∷ dct3_sum (1 ∷ [])
    ∷ dct2_sum (1 ∷ 1 ∷ [])
    ∷ dct2_sum (3 ∷ 3 ∷ 3 ∷ 3 ∷ [])
    ∷ dct3_sum (2 ∷ 0 ∷ 0 ∷ 0 ∷ [])
    ∷ dst2_sum (1 ∷ minus_one ∷ [])
    ∷ dst3_sum (0 ∷ 2 ∷ [])
    ∷ dct3_sum (dct2_sum (1 ∷ 2 ∷ 3 ∷ 4 ∷ []))
    ∷ dct4_sum (dct4_sum (1 ∷ 2 ∷ 3 ∷ 4 ∷ []))
    ∷ dct4_sum (dct4_sum (1 ∷ 0 ∷ []))
    ∷ (said_number (window_answer 4 (tab 8 (λ n. 499122177))) ∷ [])
    ∷ (said_number (window_answer 4 (tab 8 (λ n. 1))) ∷ [])
    ∷ []

abbrev pub stated_figures : List (List ℕ)
stated_figures =
    (5 ∷ [])
    ∷ (499122177 ∷ [])
    ∷ (2 ∷ 0 ∷ [])
    ∷ (12 ∷ 0 ∷ 0 ∷ 0 ∷ [])
    ∷ (1 ∷ 1 ∷ 1 ∷ 1 ∷ [])
    ∷ (0 ∷ 2 ∷ [])
    ∷ (1 ∷ minus_one ∷ [])
    ∷ (2 ∷ 4 ∷ 6 ∷ 8 ∷ [])
    ∷ (2 ∷ 4 ∷ 6 ∷ 8 ∷ [])
    ∷ (1 ∷ 0 ∷ [])
    ∷ (0 ∷ [])
    ∷ (4 ∷ [])
    ∷ []
