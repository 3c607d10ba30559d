-- The fast transforms of one and of two entries, term by term. Over any arithmetic. Assumes nothing.
use mathlib.Core.Path.{◌≡◌, ◌∙◌}
use mathlib.Core.List.{List, [], ◌∷◌}
use native.Mathlib.Omega.{arith}
use lib.ListN.{length}
use Rattle.ring.specs.Finite.{sum_of, tab}
use Rattle.algorithms.specs.Ops.{Ops, Twiddles, at}
use Rattle.algorithms.specs.Naive.{naive_dct2, naive_dst2, naive_dct3, naive_dst3}
use Rattle.algorithms.specs.Fast.{dct2_fast, dst2_fast, dct3_fast, dst3_fast}
use Rattle.algorithms.proofs.Fast.{dct2_leaf, dst2_leaf, dct3_leaf, dst3_leaf}
use Rattle.algorithms.proofs.ShortLists.{set_single, set_pair}

module _ {A : Type 0} (O : Ops A) (W : Twiddles A) (x : List A) where
  -- a sum of one term and of two, which begins with z
  abbrev single : A → A → A → A
  single z a cos = O.add z (O.mul a cos)

  abbrev pair : A → A → A → A → A → A
  pair z a cos b other = O.add (single z a cos) (O.mul b other)

  module _ (size : length x ≡ 1) where
    pub dct2_one : dct2_fast O W x ≡ single O.nought (at O x 0) (W.cos 0 4) ∷ []
    unfolding naive_dct2 tab sum_of
    dct2_one = dct2_leaf O W x (omega arith) (omega arith) ∙ rw size

    pub dst2_one : dst2_fast O W x ≡ single O.nought (at O x 0) (W.sin 1 4) ∷ []
    unfolding naive_dst2 tab sum_of
    dst2_one = dst2_leaf O W x (omega arith) (omega arith) ∙ rw size

    pub dct3_one : dct3_fast O W x ≡ O.halve (at O x 0) ∷ []
    unfolding naive_dct3 tab sum_of
    dct3_one = dct3_leaf O W x (omega arith) (omega arith) ∙ rw size

    pub dst3_one : dst3_fast O W x ≡ single O.nought (O.halve (at O x 0)) (W.sin 1 4) ∷ []
    unfolding naive_dst3 tab sum_of
    dst3_one = dst3_leaf O W x (omega arith) (omega arith) ∙ rw size

  module _ (size : length x ≡ 2) where
    pub dct2_two : dct2_fast O W x
        ≡ pair O.nought (at O x 0) (W.cos 0 8) (at O x 1) (W.cos 0 8)
        ∷ pair O.nought (at O x 0) (W.cos 1 8) (at O x 1) (W.cos 3 8) ∷ []
    unfolding naive_dct2 tab sum_of
    dct2_two = dct2_leaf O W x (omega arith) (omega arith) ∙ rw size

    pub dst2_two : dst2_fast O W x
        ≡ pair O.nought (at O x 0) (W.sin 1 8) (at O x 1) (W.sin 3 8)
        ∷ pair O.nought (at O x 0) (W.sin 2 8) (at O x 1) (W.sin 6 8) ∷ []
    unfolding naive_dst2 tab sum_of
    dst2_two = dst2_leaf O W x (omega arith) (omega arith) ∙ rw size

    pub dct3_two : dct3_fast O W x
        ≡ single (O.halve (at O x 0)) (at O x 1) (W.cos 1 8) ∷ single (O.halve (at O x 0)) (at O x 1) (W.cos 3 8) ∷ []
    unfolding naive_dct3 tab sum_of
    dct3_two = dct3_leaf O W x (omega arith) (omega arith) ∙ rw size

    pub dst3_two : dst3_fast O W x
        ≡ pair O.nought (at O x 0) (W.sin 1 8) (O.halve (at O x 1)) (W.sin 2 8)
        ∷ pair O.nought (at O x 0) (W.sin 3 8) (O.halve (at O x 1)) (W.sin 6 8) ∷ []
    unfolding naive_dst3 tab sum_of
    dst3_two = dst3_leaf O W x (omega arith) (omega arith) ∙ rw size

-- with the stores of one and of two entries
pub ruleset by_terms = (dct2_one, dst2_one, dct3_one, dst3_one, dct2_two, dst2_two, dct3_two, dst3_two, set_single, set_pair)
