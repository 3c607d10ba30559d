-- The loops of the IMDCT, which add to each entry k of an output a sum over the input, under the window: after k turns the first k entries have theirs added, and the
-- others are as they were. The sum begins at the place start k and goes on by stride k, and the window is read at slot k. The loop begins with none added (added_none), a
-- turn adds one (added_more), from numbers (added_numbers), and at the end all are added (added_all). Assumes nothing.
use mathlib.Core.Path.{◌≡◌, ◌∙◌, ap, ap₂}
use mathlib.Core.List.{List}
use Prim.Native.Nat.{ℕ, ◌+◌, ◌*◌, ◌<◌, ◌≤◌}
use native.Mathlib.Omega.{arith}
use lib.ListN.{length, set}
use Rattle.ring.specs.Finite.{tab}
use Rattle.ring.proofs.Filled.{Filled, filled_none, filled_more, filled_next, filled_all}
use Rattle.ring.proofs.Terms.{terms_same}
use Rattle.algorithms.specs.Ops.{Ops, at}
use Rattle.algorithms.specs.Block.{input_sum}
use Rattle.numbers.specs.Closed.{Closed}
use Rattle.naive_sums.specs.AngleSums.{angle_sum}
use Rattle.naive_sums.specs.Circled.{read_table}
use Rattle.naive_sums.proofs.Entries.{read_at}
use Rattle.mdct_naive.specs.Ready.{AddReady}
use Rattle.mdct_naive.proofs.Numbers.{angle_sum_number}

-- what the entry k becomes
abbrev added_at : {A : Type 0} → Ops A → (ℕ → ℕ → A) → ℕ → List A → List A → (ℕ → ℕ) → (ℕ → ℕ) → (ℕ → ℕ) → List A → ℕ → A
added_at O reads n w input start stride slot d k =
    O.add (at O d k) (O.mul (input_sum O n (read_table reads (4 * n)) w input (start k) (stride k)) (at O w (slot k)))

pub record Added {A : Type 0} (O : Ops A) (reads : ℕ → ℕ → A) (n : ℕ) (w input : List A) (start stride slot : ℕ → ℕ) (d : List A) (k : ℕ) (out : List A)
    : Type 0 where
  pub filled : Filled O.none (added_at O reads n w input start stride slot d) d k out

pub added_none : {A : Type 0} (O : Ops A) (reads : ℕ → ℕ → A) (n : ℕ) (w input : List A) (start stride slot : ℕ → ℕ) (d : List A)
    → Added O reads n w input start stride slot d 0 d
added_none O reads n w input start stride slot d = record { filled = filled_none O.none _ d }

module _ {A C : Type 0} {O : Ops A} {Fits : A → Type 0} {reads : ℕ → ℕ → A} {turn : C → ℕ} {sound : C → Type 0} {circle : C} {n : ℕ} {w input d : List A}
    (ready : AddReady O Fits turn sound circle n input d w) {start stride slot : ℕ → ℕ} {k : ℕ} {out : List A}
    (a : Added O reads n w input start stride slot d k out) where
  abbrev table_sum : A → A
  table_sum begin = angle_sum O reads (turn circle) input begin (start k) (stride k)

  sum_is : {begin : A} → begin ≡ O.nought → table_sum begin ≡ input_sum O n (read_table reads (4 * n)) w input (start k) (stride k)
  unfolding angle_sum
  sum_is none =
      terms_same O.add O.nought none ready.input_length
      (λ i less. ap (O.mul (at O input i)) (read_at O.none reads ready.turned.whole (omega (arith, ready.turned.enough)) (start k + i * stride k)))

  -- a turn adds what it weighs by the entry m of the window to the next entry, which is as it was: all three are numbers
  pub added_numbers : Closed O Fits → {begin sum held weight : A} (m first step : ℕ) → k < n → begin ≡ O.nought
      → sum ≡ angle_sum O reads (turn circle) input begin first step → held ≡ at O out k → m < length w → weight ≡ at O w m
      → Fits held × Fits sum × Fits weight
  added_numbers closed m first step less none summed reads_held within reads_weight = (
    rw (reads_held, filled_next a.filled) (ready.output_numbers.each k (omega (arith, ready.output_length))),
    rw summed (angle_sum_number closed (rw none closed.nought) _ _ _ _ _),
    rw reads_weight (ready.turned.weights.each m within),
  )

  pub added_more : {begin sum held weight v : A} → k < n → begin ≡ O.nought → sum ≡ table_sum begin → held ≡ at O out k → weight ≡ at O w (slot k)
      → v ≡ O.add held (O.mul sum weight) → Added O reads n w input start stride slot d (k + 1) (set out k v)
  added_more less none summed reads_held reads_weight is = record {
    filled = filled_more a.filled (omega (arith, a.filled.same, ready.output_length))
        (is ∙ ap₂ O.add (reads_held ∙ filled_next a.filled) (ap₂ O.mul (summed ∙ sum_is none) reads_weight));
  }

  pub added_all : n ≤ k → out ≡ tab n (added_at O reads n w input start stride slot d)
  added_all past =
      filled_all a.filled (omega (arith, a.filled.same, ready.output_length))
      ∙ ap (λ (m : ℕ). tab m (added_at O reads n w input start stride slot d)) ready.output_length
