-- What the loops compute are numbers: a sum that begins with one (sum_number, angle_sum_number, windowed_sum_number). The term of a segment under the window (windowed_term). Assumes nothing.
use mathlib.Core.List.{List}
use Prim.Native.Nat.{ℕ, zero, suc}
use lib.ListN.{length}
use Rattle.ring.specs.Finite.{sum_of}
use Rattle.algorithms.specs.Ops.{Ops, at}
use Rattle.numbers.specs.Closed.{Closed}
use Rattle.naive_sums.specs.AngleSums.{angle_sum}
use Rattle.mdct_naive.specs.Sums.{windowed_sum}

-- the term at i, with what stands at the place
abbrev pub windowed_term : {A : Type 0} → Ops A → (ℕ → ℕ → A) → ℕ → List A → List A → ℕ → ℕ → A
windowed_term O reads turn w x i place = O.mul (O.mul (at O x i) (at O w i)) (reads place turn)

module _ {A : Type 0} {O : Ops A} {Fits : A → Type 0} (closed : Closed O Fits) where
  pub sum_number : {begin : A} → Fits begin → (m : ℕ) (f : ℕ → A) → Fits (sum_of O.add begin m f)
  unfolding sum_of
  sum_number begins zero f = begins
  sum_number begins (suc m) f = closed.add _ _

  pub angle_sum_number : {begin : A} → Fits begin → (reads : ℕ → ℕ → A) (turn : ℕ) (x : List A) (first step : ℕ)
      → Fits (angle_sum O reads turn x begin first step)
  unfolding angle_sum
  angle_sum_number begins reads turn x first step = sum_number begins (length x) _

  pub windowed_sum_number : {begin : A} → Fits begin → (reads : ℕ → ℕ → A) (turn : ℕ) (w x : List A) (first step : ℕ)
      → Fits (windowed_sum O reads turn w x begin first step)
  unfolding windowed_sum
  windowed_sum_number begins reads turn w x first step = sum_number begins (length x) _
