-- The lengths of the inner inputs of split radix, over any arithmetic. Assumes nothing.
use mathlib.Core.Path.{◌≡◌}
use mathlib.Core.List.{List}
use Prim.Native.Nat.{ℕ, ◌*◌}
use lib.ListN.{length}
use Rattle.ring.proofs.Table.{length_tab}
use Rattle.algorithms.specs.Ops.{Ops, Twiddles}
use Rattle.algorithms.specs.Split.{input_dct2, input_dct4_even, input_dct4_odd, input_evens, input_one, input_three}
use Rattle.algorithms.proofs.Lists.{length_back, length_there_back}

module _ {A : Type 0} (O : Ops A) (W : Twiddles A) (q : ℕ) (x : List A) where
  -- DCT-II
  pub length_half : length (input_dct2 O q x) ≡ 2 * q
  unfolding input_dct2
  length_half = length_there_back q _ _

  pub length_cosines : length (input_dct4_even O W q x) ≡ q
  unfolding input_dct4_even
  length_cosines = length_tab q _

  pub length_sines : length (input_dct4_odd O W q x) ≡ q
  unfolding input_dct4_odd
  length_sines = length_back q _

  -- DCT-III
  pub length_evens : length (input_evens O q x) ≡ 2 * q
  unfolding input_evens
  length_evens = length_tab (2 * q) _

  pub length_one : length (input_one O q x) ≡ q
  unfolding input_one
  length_one = length_tab q _

  pub length_three : length (input_three O q x) ≡ q
  unfolding input_three
  length_three = length_tab q _
