-- mdct_via_dct4.rs: what stands before and after the DCT-IV of N = 2g entries, on lists and in the Rust's order of operations. The first segment is a, b, the second
-- c, d, each of g entries, under a window of 4g. Assumes nothing.
use Rattle.std.specs.Prelude.{cond, List, ◌++◌, ℕ, ◌+◌, ◌*◌, ◌-◌, ltb}
use Rattle.ring.specs.Finite.{tab}
use Rattle.algorithms.specs.Ops.{Ops, at}

module _ {A : Type 0} (O : Ops A) (g : ℕ) (w : List A) where
  -- the entries under the window
  abbrev pub first_scaled : List A → ℕ → A
  first_scaled first n = O.mul (at O first n) (at O w n)

  abbrev pub second_scaled : List A → ℕ → A
  second_scaled second n = O.mul (at O second n) (at O w (2 * g + n))

  -- −c reversed − d
  abbrev pub low_fold : List A → ℕ → A
  low_fold second i = O.sub (O.neg (second_scaled second (g - 1 - i))) (second_scaled second (g + i))

  -- a − b reversed
  abbrev pub high_fold : List A → ℕ → A
  high_fold first t = O.sub (first_scaled first t) (first_scaled first (2 * g - 1 - t))

  -- the first half of the output, then the part from its middle on
  unfoldable pub folded : List A → List A → List A
  folded first second = tab g (low_fold second) ++ tab g (high_fold first)

  -- what the DCT-IV d of the input adds to the first output: its second half, then that reversed and taken away
  abbrev pub first_spread : List A → List A → ℕ → A
  first_spread d held n =
      cond (ltb n g) (O.add (at O held n) (O.mul (at O d (g + n)) (at O w n))) (O.sub (at O held n) (O.mul (at O d (3 * g - 1 - n)) (at O w n)))

  -- to the second output: its first half reversed, then as it is, both taken away
  abbrev pub second_spread : List A → List A → ℕ → A
  second_spread d held n =
      cond (ltb n g) (O.sub (at O held n) (O.mul (at O d (g - 1 - n)) (at O w (2 * g + n))))
      (O.sub (at O held n) (O.mul (at O d (n - g)) (at O w (2 * g + n))))

  unfoldable pub spread_first : List A → List A → List A
  spread_first d held = tab (2 * g) (first_spread d held)

  unfoldable pub spread_second : List A → List A → List A
  spread_second d held = tab (2 * g) (second_spread d held)
