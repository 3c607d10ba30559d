-- The three inner transforms: what the split leaves is their inputs one after the other, so that each can be made in its place (first_ready, second_ready, third_ready) and leaves
-- as many entries there (first_made, second_made, third_made), and what the merge makes of the three results is the transform of the whole (merge_ready, results_merged).
-- And the sine transform by the cosine transform (sines_turned). Over any numbers. Assumes nothing.
use mathlib.Core.Path.{◌≡◌, refl, ◌∙◌}
use mathlib.Core.List.{List, ◌++◌}
use Prim.Native.Nat.{ℕ, ◌*◌, ◌-◌}
use lib.ListN.{length, take, drop}
use Rattle.ring.specs.Part.{part}
use Rattle.ring.proofs.Parts.{Parts, parts_length, part_first, part_second, part_third, lent, lent_second, lent_third}
use Rattle.algorithms.specs.Ops.{Ops, Twiddles}
use Rattle.algorithms.specs.Lists.{alternated, reversed}
use Rattle.algorithms.specs.Split.{input_evens, input_one, input_three, split_three, merge_three}
use Rattle.algorithms.specs.Fast.{dct3_fast, dst3_fast}
use Rattle.algorithms.proofs.Inputs.{length_evens, length_one, length_three}
use Rattle.algorithms.proofs.Fast.{dct3_step, dct3_length, dst3_turned}
use Rattle.numbers.specs.Closed.{Closed}
use Rattle.split.specs.Served.{Served}
use Rattle.split.specs.Ready.{InPlace, Step}
use Rattle.split.proofs.Lent.{quarter_power, quarter_small, ready_first, ready_second, ready_third}
use Rattle.split.proofs.Parts.{lent_front}
use Rattle.split.proofs.Numbers.{fit_append}
use Rattle.split.proofs.Results.{fit_evens, fit_one, fit_three, fit_dct3}

module _ {A W : Type 0} {O : Ops A} {Fits : A → Type 0} {turn : W → Twiddles A} {serves : W → ℕ → Type 0} (closed : Closed O Fits) (law : Served Fits turn serves)
    {w : W} {q : ℕ} {x s : List A} (taken : Step O Fits serves w q x s) where
  abbrev fast : List A → List A
  fast = dct3_fast O (turn w)

  as_many : {v : W} {n : ℕ} (m : List A) → serves v n → length m ≡ n → length (fast m) ≡ length m
  as_many {v} {n} m serving size = let power = law.power v n serving in dct3_length O (turn w) m power.exponent power.small (size ∙ power.power)

  -- scratch holds three parts, made of the three inner inputs: after the split, and after each of the three calls
  abbrev Held : (List A → List A) → (List A → List A) → (List A → List A) → List A → Type 0
  Held f g h = Parts q (f (input_evens O q x)) (g (input_one O q x)) (h (input_three O q x))

  abbrev Parted : List A → Type 0
  Parted = Held (λ l. l) (λ l. l) (λ l. l)

  abbrev First : List A → Type 0
  First = Held fast (λ l. l) (λ l. l)

  abbrev Second : List A → Type 0
  Second = Held fast fast (λ l. l)

  abbrev Third : List A → Type 0
  Third = Held fast fast fast

  pub parted : {l : List A} → l ≡ split_three O q x → Parted l
  unfolding split_three
  parted is = record {
    half = length_evens O (turn w) q x;
    third_quarter = length_one O (turn w) q x;
    fourth_quarter = length_three O (turn w) q x;
    is = is;
  }

  -- by v, which turns as w does
  module _ {v : W} (same : turn v ≡ turn w) {l : List A} where
    module _ (serving : serves v (2 * q)) (held : Parted l) where
      pub first_ready : (y : List A) → length y ≡ length x → InPlace O Fits serves v (take (2 * q) l) (take (2 * q) y)
      first_ready y kept = ready_first held y (kept ∙ taken.from_length) serving (fit_evens closed (turn w) q x taken.numbers)

      pub first_made : {last : List A} → last ≡ dct3_fast O (turn v) (take (2 * q) l) → First (last ++ drop (2 * q) l)
      first_made made = lent_front held fast (as_many _ serving held.half) (rw same at made)

    module _ (serving : serves v q) where
      pub second_ready : First l → (y : List A) → length y ≡ length x → InPlace O Fits serves v (part (2 * q) (3 * q) l) (take q y)
      second_ready held y kept = ready_second held y (kept ∙ taken.from_length) serving (fit_one closed (turn w) q x)

      pub second_made : First l → {last : List A} → last ≡ dct3_fast O (turn v) (part (2 * q) (3 * q) l) → Second (lent (2 * q) (3 * q) l last)
      second_made held made = lent_second held fast (as_many _ serving held.third_quarter) (rw same at made) refl

      pub third_ready : Second l → (y : List A) → length y ≡ length x → InPlace O Fits serves v (part (3 * q) (length l) l) (take q y)
      third_ready held y kept = ready_third held y (kept ∙ taken.from_length) serving (fit_three closed (turn w) q x)

      pub third_made : Second l → {last : List A} → last ≡ dct3_fast O (turn v) (part (3 * q) (length l) l) → Third (lent (3 * q) (length l) l last)
      third_made held made = lent_third held fast (parts_length held) (as_many _ serving held.fourth_quarter) (rw same at made) refl

  module _ {l : List A} (held : Third l) where
    pub merge_ready : {y : List A} → length y ≡ length x → Step O Fits serves w q l y
    merge_ready kept = record {
      served = taken.served;
      some = taken.some;
      numbers = rw held.is (fit_append _ _ (fit_dct3 closed (turn w) _) (fit_append _ _ (fit_dct3 closed (turn w) _) (fit_dct3 closed (turn w) _)));
      from_length = parts_length held;
      to_length = kept ∙ taken.from_length;
    }

    pub results_merged : {out : List A} → out ≡ merge_three O (turn w) q (part 0 (2 * q) l) (part (2 * q) (3 * q) l) (part (3 * q) (4 * q) l) → out ≡ fast x
    results_merged is =
        let power = law.power w (4 * q) taken.served in
        let first = part_first held in
        let second = part_second held in
        let third = part_third held in
        let whole = dct3_step O (turn w) x (power.exponent - 1 - 1) q (quarter_power taken.some power) (quarter_small taken.some power) taken.from_length in
        cc

  -- the order changed before, and signs after
  pub sines_turned : {y z out : List A} → y ≡ reversed O x → z ≡ fast y → out ≡ alternated O z → out ≡ dst3_fast O (turn w) x
  sines_turned is-reversed is-transformed is-alternated =
      let power = law.power w (4 * q) taken.served in
      let whole = dst3_turned O (turn w) x (power.exponent - 1 - 1) q (quarter_power taken.some power) (quarter_small taken.some power) taken.from_length in
      cc
