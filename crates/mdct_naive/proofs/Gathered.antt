-- The loop that stores the outputs of the MDCT one after the other: after k turns the first k are stored, and the place is where the sum for output k begins. The loop begins
-- with none stored (gathered_none), a turn stores one (gathered_more), and at the end all are stored (gathered_all). An output is the sum over the first segment, gone on with
-- over the second (gathered_is, second_ready). Assumes nothing.
use mathlib.Core.Path.{◌≡◌, refl, sym, ◌∙◌, ap, ap₂}
use mathlib.Core.List.{List, ◌++◌}
use Prim.Native.Nat.{ℕ, ◌+◌, ◌*◌, ◌-◌, ◌/◌, ◌%◌, ◌<◌, ◌≤◌}
use native.Mathlib.Nat as Nat
use native.Mathlib.Omega.{arith}
use lib.ListN.{length, drop, set, get_or-append, length-drop}
use lib.Seq.{length-take-le}
use Rattle.ring.specs.Finite.{sum_of, tab}
use Rattle.ring.specs.Part.{part}
use Rattle.ring.proofs.Filled.{Filled, filled_none, filled_more, filled_all}
use Rattle.ring.proofs.Parts.{part_entry}
use Rattle.ring.proofs.Terms.{terms_same, terms_append}
use Rattle.places.proofs.Places.{place_first, place_onward, place_below}
use Rattle.algorithms.specs.Ops.{Ops, at}
use Rattle.algorithms.specs.Block.{cosine_at, naive_mdct}
use Rattle.algorithms.proofs.Lists.{get_d_after}
use Rattle.numbers.specs.Closed.{Closed}
use Rattle.naive_sums.specs.Circled.{read_table}
use Rattle.naive_sums.proofs.Entries.{read_at}
use Rattle.naive_sums.proofs.Sums.{rest_numbers}
use Rattle.mdct_naive.specs.Ready.{WindowReady, MdctReady}
use Rattle.mdct_naive.specs.Sums.{windowed_sum}
use Rattle.mdct_naive.proofs.Numbers.{windowed_sum_number}

-- the terms of output k, and the output
abbrev term : {A : Type 0} → Ops A → (ℕ → ℕ → A) → ℕ → List A → List A → List A → ℕ → ℕ → A
term O reads n w first second k i =
    O.mul (O.mul (at O (first ++ second) i) (at O w i)) (cosine_at O n (read_table reads (4 * n)) w (n / 2 + k * (n + 1) + i * (2 * k + 1)))

abbrev gathered_at : {A : Type 0} → Ops A → (ℕ → ℕ → A) → ℕ → List A → List A → List A → ℕ → A
gathered_at O reads n w first second k = sum_of O.add O.nought (2 * n) (term O reads n w first second k)

pub record Gathered {A : Type 0} (O : Ops A) (reads : ℕ → ℕ → A) (n : ℕ) (w first second d : List A) (k place : ℕ) (out : List A) : Type 0 where
  pub below : place < 4 * n
  pub place_is : place ≡ (n / 2 + k * (n + 1)) % (4 * n)
  pub filled : Filled O.none (gathered_at O reads n w first second) d k out

-- a place that is known up to whole turns, and what lies further on
onward : (turn a b : ℕ) {place : ℕ} → place ≡ a % turn → (place + b) % turn ≡ (a + b) % turn
onward turn a b is = ap (λ (z : ℕ). (z + b) % turn) is ∙ Nat.mod-add-mod a turn b

pub gathered_none : {A : Type 0} (O : Ops A) (reads : ℕ → ℕ → A) (n : ℕ) (w first second d : List A) → 2 ≤ n
    → Gathered O reads n w first second d 0 (n / 2) d
gathered_none O reads n w first second d enough = record {
  below = omega arith;
  place_is = place_first (4 * n) (n / 2) (n + 1) (omega arith);
  filled = filled_none O.none (gathered_at O reads n w first second) d;
}

module _ {A C : Type 0} {O : Ops A} {Fits : A → Type 0} {reads : ℕ → ℕ → A} {turn : C → ℕ} {sound : C → Type 0} {circle : C} {n : ℕ}
    {w first second d : List A} (ready : MdctReady O Fits turn sound circle n first second d w) {k place : ℕ} {out : List A}
    (g : Gathered O reads n w first second d k place out) where
  abbrev t : List A
  t = read_table reads (4 * n)

  abbrev segment_sum : List A → List A → A → ℕ → A
  segment_sum window x begin from = windowed_sum O reads (turn circle) window x begin from (2 * k + 1)

  -- what stands there for the term j
  cosine : (from i j : ℕ) → (from + i * (2 * k + 1)) % (4 * n) ≡ (n / 2 + k * (n + 1) + j * (2 * k + 1)) % (4 * n)
      → reads ((from + i * (2 * k + 1)) % turn circle) (turn circle) ≡ cosine_at O n t w (n / 2 + k * (n + 1) + j * (2 * k + 1))
  cosine from i j same =
      read_at O.none reads ready.turned.whole (omega (arith, ready.turned.enough)) (from + i * (2 * k + 1)) ∙ ap (at O t) same

  first_term : (i : ℕ) → i < n
      → O.mul (O.mul (at O first i) (at O w i)) (reads ((place + i * (2 * k + 1)) % turn circle) (turn circle)) ≡ term O reads n w first second k i
  first_term i less =
      ap₂ (λ (x c : A). O.mul (O.mul x (at O w i)) c)
      (sym (get_or-append first second O.none i (omega (arith, ready.first_length))))
      (cosine place i i (onward (4 * n) (n / 2 + k * (n + 1)) (i * (2 * k + 1)) g.place_is))

  second_term : {later : ℕ} → later ≡ (place + n * (2 * k + 1)) % (4 * n) → (i : ℕ) → i < n
      → O.mul (O.mul (at O second i) (at O (part n (length w) w) i)) (reads ((later + i * (2 * k + 1)) % turn circle) (turn circle))
      ≡ term O reads n w first second k (n + i)
  second_term {later} goes i less =
      let far : later ≡ (n / 2 + k * (n + 1) + n * (2 * k + 1)) % (4 * n) = goes ∙ onward (4 * n) (n / 2 + k * (n + 1)) (n * (2 * k + 1)) g.place_is in
      let all : n / 2 + k * (n + 1) + n * (2 * k + 1) + i * (2 * k + 1) ≡ n / 2 + k * (n + 1) + (n + i) * (2 * k + 1) = omega arith in
      ap₂ O.mul
      (ap₂ O.mul (sym (get_d_after first second n i O.none ready.first_length))
      (sym (part_entry O.none w n (length w) i (n + i) (omega (arith, ready.turned.window_length)) refl)))
      (cosine later i (n + i) (onward (4 * n) (n / 2 + k * (n + 1) + n * (2 * k + 1)) (i * (2 * k + 1)) far ∙ ap (λ (z : ℕ). z % (4 * n)) all))

  gathered_is : {zero begun value : A} {later : ℕ} → zero ≡ O.nought → begun ≡ segment_sum w first zero place
      → later ≡ (place + n * (2 * k + 1)) % (4 * n) → value ≡ segment_sum (part n (length w) w) second begun later
      → value ≡ gathered_at O reads n w first second k
  unfolding windowed_sum
  gathered_is none front goes back =
      let whole : n + n ≡ 2 * n = omega arith in
      back
      ∙ terms_same O.add _ (front ∙ terms_same O.add O.nought none ready.first_length first_term) ready.second_length (second_term goes)
      ∙ sym (terms_append O.add O.nought n n (term O reads n w first second k))
      ∙ ap (λ (m : ℕ). sum_of O.add O.nought m (term O reads n w first second k)) whole

  pub gathered_more : {zero begun value : A} {later next : ℕ} → k < n → zero ≡ O.nought → begun ≡ segment_sum w first zero place
      → later ≡ (place + n * (2 * k + 1)) % (4 * n) → value ≡ segment_sum (part n (length w) w) second begun later
      → next ≡ (place + (n + 1)) % (4 * n) → Gathered O reads n w first second d (k + 1) next (set out k value)
  gathered_more less none front goes back turned = record {
    below = rw turned (Nat.mod-lt (place + (n + 1)) (omega arith));
    place_is = place_onward (4 * n) (n / 2) (n + 1) k g.place_is turned;
    filled = filled_more g.filled (omega (arith, g.filled.same, ready.output_length)) (gathered_is none front goes back);
  }

  -- what the sum over the second segment asks for
  pub second_ready : Closed O Fits → {zero begun : A} {later : ℕ} → k < n → zero ≡ O.nought → begun ≡ segment_sum w first zero place
      → later ≡ (place + n * (2 * k + 1)) % (4 * n) → WindowReady O Fits turn sound circle (part n (length w) w) second begun later (2 * k + 1)
  second_ready closed less none front goes =
      let far = place_below (4 * n) (place + n * (2 * k + 1)) (omega arith) goes in
      let half : length (part n (length w) w) ≡ length w - n = length-take-le (length w - n) (drop n w) (omega (arith, length-drop n w)) in
      record {
        sum = record {
          circles = ready.turned.circles;
          numbers = ready.second_numbers;
          begins = rw front (windowed_sum_number closed (rw none closed.nought) _ _ _ _ _ _);
          first_below = omega (arith, far, ready.turned.whole);
          step_below = omega (arith, ready.turned.whole);
        };
        weighed = omega (arith, half, ready.second_length, ready.turned.window_length);
        weights = rest_numbers n w ready.turned.weights;
      }

  pub gathered_all : n ≤ k → out ≡ naive_mdct O n t w first second
  unfolding naive_mdct
  gathered_all past =
      filled_all g.filled (omega (arith, g.filled.same, ready.output_length))
      ∙ ap (λ (m : ℕ). tab m (gathered_at O reads n w first second)) ready.output_length
