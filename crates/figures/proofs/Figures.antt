-- Each of the twelve figures, taken from their one list. Assumes nothing.
use mathlib.Core.Path.{◌≡◌, ap}
use mathlib.Core.List.{List, [], ◌∷◌}
use Prim.Native.Nat.{ℕ}
use lib.ListN.{get_or}
use Rattle.ring.specs.Finite.{tab}
use Rattle.answers.specs.Said.{said_number}
use Rattle.sums.proofs.Figures.{the_twelve}
use Rattle.sums.specs.Call.{window_answer}
use Rattle.sums.specs.Figure.{computed_figures}
use Rattle.sums.specs.Residue.{minus_one}
use Rattle.sums.specs.Transform.{dct2_sum, dst2_sum, dct3_sum, dst3_sum, dct4_sum}
use Rattle.figures.specs.Stated.{stated}

figure_is : (place : ℕ) → get_or computed_figures place [] ≡ stated place
figure_is place = ap (λ (list : List (List ℕ)). get_or list place []) the_twelve

pub a_is : dct2_sum (5 ∷ []) ≡ stated 0
a_is = figure_is 0

pub b_is : dct3_sum (1 ∷ []) ≡ stated 1
b_is = figure_is 1

pub c_is : dct2_sum (1 ∷ 1 ∷ []) ≡ stated 2
c_is = figure_is 2

pub d_is : dct2_sum (3 ∷ 3 ∷ 3 ∷ 3 ∷ []) ≡ stated 3
d_is = figure_is 3

pub e_is : dct3_sum (2 ∷ 0 ∷ 0 ∷ 0 ∷ []) ≡ stated 4
e_is = figure_is 4

pub f_is : dst2_sum (1 ∷ minus_one ∷ []) ≡ stated 5
f_is = figure_is 5

pub g_is : dst3_sum (0 ∷ 2 ∷ []) ≡ stated 6
g_is = figure_is 6

pub h_is : dct3_sum (dct2_sum (1 ∷ 2 ∷ 3 ∷ 4 ∷ [])) ≡ stated 7
h_is = figure_is 7

pub i_is : dct4_sum (dct4_sum (1 ∷ 2 ∷ 3 ∷ 4 ∷ [])) ≡ stated 8
i_is = figure_is 8

pub j_is : dct4_sum (dct4_sum (1 ∷ 0 ∷ [])) ≡ stated 9
j_is = figure_is 9

pub k_is : said_number (window_answer 4 (499122177 ∷ 499122177 ∷ 499122177 ∷ 499122177 ∷ 499122177 ∷ 499122177 ∷ 499122177 ∷ 499122177 ∷ [])) ∷ [] ≡ stated 10
unfolding tab
k_is = figure_is 10

pub l_is : said_number (window_answer 4 (1 ∷ 1 ∷ 1 ∷ 1 ∷ 1 ∷ 1 ∷ 1 ∷ 1 ∷ [])) ∷ [] ≡ stated 11
unfolding tab
l_is = figure_is 11
