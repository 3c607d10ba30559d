-- type2and3_naive.rs: DCT-II, DST-II, DCT-III and DST-III by their sums, term by term in the Rust's order. The Rust walks its table of
-- 4n twiddles by an index that loses the table's length where it passes the end: an angle is taken modulo a whole turn.
-- Its stored sines are negated and their products subtracted; here they are added, which has the same bits. Assumes nothing.
use Rattle.std.specs.Prelude.{cond, List, ℕ, suc, ◌+◌, ◌*◌, ◌-◌, ◌%◌, length, eqb}
use Rattle.ring.specs.Finite.{sum_of, tab}
use Rattle.algorithms.specs.Ops.{Ops, Twiddles, at}

module _ {A : Type 0} (O : Ops A) (W : Twiddles A) where
  -- an angle of a units, n entries having a turn of 4n units
  abbrev pub cos_of_units : ℕ → ℕ → A
  cos_of_units n a = W.cos (a % (4 * n)) (4 * n)

  abbrev pub sin_of_units : ℕ → ℕ → A
  sin_of_units n a = W.sin (a % (4 * n)) (4 * n)

  unfoldable pub naive_dct2 : List A → List A
  naive_dct2 x =
      tab (length x)
      (λ k. sum_of O.add O.nought (length x) (λ i. O.mul (at O x i) (cos_of_units (length x) (k * (2 * i + 1)))))

  unfoldable pub naive_dst2 : List A → List A
  naive_dst2 x =
      tab (length x)
      (λ k. sum_of O.add O.nought (length x) (λ i. O.mul (at O x i) (sin_of_units (length x) ((k + 1) * (2 * i + 1)))))

  -- the sum starts from half of the first entry
  unfoldable pub naive_dct3 : List A → List A
  naive_dct3 x =
      tab (length x)
      (λ k.
      sum_of O.add (O.halve (at O x 0)) (length x - 1)
      (λ i. O.mul (at O x (suc i)) (cos_of_units (length x) (suc i * (2 * k + 1)))))

  -- the last entry is halved
  abbrev pub last_halved : List A → ℕ → A
  last_halved x i = cond (eqb (suc i) (length x)) (O.halve (at O x i)) (at O x i)

  unfoldable pub naive_dst3 : List A → List A
  naive_dst3 x =
      tab (length x)
      (λ k. sum_of O.add O.nought (length x) (λ i. O.mul (last_halved x i) (sin_of_units (length x) ((i + 1) * (2 * k + 1)))))
