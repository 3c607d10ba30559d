-- The two inner transforms of m entries: what is asked of the whole is enough for the twiddles (halved_ready), the split, each of them and the merge (split_ready, left_ready,
-- right_ready, merge_ready), what the split leaves is their inputs one after the other (dct4_inputs, dst4_inputs), which are numbers (fit_left_dct4 and the others), each puts its
-- result where its input was (cosines_left, sines_right, sines_left, cosines_right), and what the merge makes of the results is the transform of the whole (dct4_is, dst4_is).
-- Over any numbers. Assumes nothing.
use mathlib.Core.Path.{◌≡◌, sym, ◌∙◌, ap₂}
use mathlib.Core.Bool.{Bool, true, false, cond}
use mathlib.Core.List.{List, ◌++◌}
use Prim.Native.Nat.{ℕ, zero, suc, ◌+◌, ◌*◌, ◌-◌, ◌/◌, ◌^◌, ◌≤◌}
use native.Mathlib.Omega.{arith}
use lib.Dec.{eqb}
use lib.ListN.{length}
use Rattle.ring.specs.Part.{part, over}
use Rattle.ring.proofs.Halves.{Halves, halves_length, part_left, part_right, over_left, over_right}
use Rattle.ring.proofs.Powers.{halves_whole, half_power}
use Rattle.algorithms.specs.Ops.{Ops, Twiddles, at}
use Rattle.algorithms.specs.Fast.{dct3_fast, dst3_fast, dct4_fast, dst4_fast}
use Rattle.algorithms.specs.Four.{first_doubled, last_doubled, left_dct4, right_dct4, left_dst4, right_dst4, merge_dct4, merge_dst4}
use Rattle.algorithms.proofs.Fast.{dct3_length, dst3_length, dct4_merged, dst4_merged}
use Rattle.algorithms.proofs.Four.{length_left_dct4, length_right_dct4, length_left_dst4, length_right_dst4}
use Rattle.numbers.specs.Closed.{Closed, AllFit}
use Rattle.split.specs.Served.{Power, Served}
use Rattle.split.specs.Ready.{PartInPlace}
use Rattle.split.proofs.Numbers.{fit_tab, fit_append}
use Rattle.dct4.specs.Ready.{Ready, Split, Merge}

module _ {A : Type 0} (O : Ops A) (m : ℕ) (x : List A) {l : List A} where
  pub dct4_inputs : l ≡ left_dct4 O m x ++ right_dct4 O m x → Halves m (left_dct4 O m x) (right_dct4 O m x) l
  dct4_inputs is = record { left = length_left_dct4 O m x; right = length_right_dct4 O m x; is = is }

  pub dst4_inputs : l ≡ left_dst4 O m x ++ right_dst4 O m x → Halves m (left_dst4 O m x) (right_dst4 O m x) l
  dst4_inputs is = record { left = length_left_dst4 O m x; right = length_right_dst4 O m x; is = is }

module _ {A : Type 0} {O : Ops A} {Fits : A → Type 0} (closed : Closed O Fits) (m : ℕ) (x : List A) where
  -- what an operation gives, and what is doubled, is a number
  module _ (op : A → A → A) (gives : (a b : A) → Fits (op a b)) where
    first_fits : (k : ℕ) → Fits (first_doubled O m x op k)
    first_fits zero = closed.double _
    first_fits (suc k) = gives _ _

    last_fits : (k : ℕ) → Fits (last_doubled O m x op k)
    last_fits k = chosen (eqb (suc k) m)
      where
        chosen : (t : Bool) → Fits (cond t (O.double (at O x (2 * m - 1))) (op (at O x (2 * k + 1)) (at O x (2 * k + 2))))
        chosen true = closed.double _
        chosen false = gives _ _

  pub fit_left_dct4 : AllFit O Fits (left_dct4 O m x)
  unfolding left_dct4
  fit_left_dct4 = fit_tab m _ (first_fits O.add closed.add)

  pub fit_right_dct4 : AllFit O Fits (right_dct4 O m x)
  unfolding right_dct4
  fit_right_dct4 = fit_tab m _ (last_fits O.sub closed.sub)

  pub fit_left_dst4 : AllFit O Fits (left_dst4 O m x)
  unfolding left_dst4
  fit_left_dst4 = fit_tab m _ (last_fits O.add closed.add)

  pub fit_right_dst4 : AllFit O Fits (right_dst4 O m x)
  unfolding right_dst4
  fit_right_dst4 = fit_tab m _ (first_fits (λ a b. O.sub b a) (λ a b. closed.sub b a))

module _ {A B : Type 0} {O : Ops A} {Fits : A → Type 0} {turn : B → Twiddles A} {serves : B → ℕ → Type 0} (law : Served Fits turn serves)
    {by : B} {x s : List A} (asked : Ready O Fits serves by x s) where
  abbrev m : ℕ
  m = length x / 2

  abbrev W : Twiddles A
  W = turn by

  power : Power (2 * length x)
  power = law.power by (2 * length x) asked.served

  length_power : length x ≡ 2 ^ (power.exponent - 1)
  length_power = half_power power.exponent (length x) (omega (arith, asked.some)) power.power

  whole : 2 * m ≡ length x
  whole = halves_whole (power.exponent - 1) (length x) length_power asked.some

  some : 1 ≤ m
  some = omega (arith, asked.some)

  -- m is a power of two
  inner_power : m ≡ 2 ^ (power.exponent - 1 - 1)
  inner_power = half_power (power.exponent - 1) m some (whole ∙ length_power)

  small : power.exponent - 1 - 1 ≤ 9
  small = omega (arith, power.small)

  pub halved_ready : (1 ≤ 2 * m) × serves by (2 * (2 * m))
  halved_ready = (omega (arith, some), rw whole asked.served)

  pub split_ready : Split O Fits m x s
  split_ready = record { some = some; numbers = asked.numbers; from_length = sym whole; to_length = asked.same ∙ sym whole }

  -- with y, which is as long as x, as the inner scratch and as what the merge fills
  module _ {a b l y : List A} (halves : Halves m a b l) (same : length y ≡ length x) where
    module _ {inner : B} (serving : serves inner m) where
      pub left_ready : AllFit O Fits a → PartInPlace O Fits serves inner l 0 m y
      left_ready numbers =
          let size : m - 0 ≡ m = omega arith in
          record {
            served = rw size serving;
            numbers = rw (part_left halves) numbers;
            from_to = omega arith;
            within = omega (arith, halves_length halves);
            room = omega (arith, same, whole);
          }

      pub right_ready : AllFit O Fits b → PartInPlace O Fits serves inner l m (2 * m) y
      right_ready numbers =
          let size : 2 * m - m ≡ m = omega arith in
          record {
            served = rw size serving;
            numbers = rw (part_right halves) numbers;
            from_to = omega arith;
            within = omega (arith, halves_length halves);
            room = omega (arith, same, whole);
          }

    pub merge_ready : AllFit O Fits a → AllFit O Fits b → Merge O Fits serves by m l y
    merge_ready first second =
        let size : 4 * m ≡ 2 * length x = omega (arith, whole) in
        record {
          served = rw size asked.served;
          numbers = rw halves.is (fit_append a b first second);
          from_length = halves_length halves;
          to_length = same ∙ sym whole;
        }

  abbrev cosines : List A → List A
  cosines = dct3_fast O W

  abbrev sines : List A → List A
  sines = dst3_fast O W

  cosines_kept : (y : List A) → length y ≡ m → length (cosines y) ≡ length y
  cosines_kept y size = dct3_length O W y (power.exponent - 1 - 1) (omega (arith, small)) (size ∙ inner_power)

  sines_kept : (y : List A) → length y ≡ m → length (sines y) ≡ length y
  sines_kept y size = dst3_length O W y (power.exponent - 1 - 1) (omega (arith, small)) (size ∙ inner_power)

  -- by what turns as the whole does
  module _ {w : Twiddles A} (same : w ≡ W) {a b l out : List A} (halves : Halves m a b l) where
    pub cosines_left : out ≡ over (dct3_fast O w) 0 m l → Halves m (cosines a) b out
    cosines_left is = over_left halves cosines (cosines_kept a halves.left) (rw same at is)

    pub sines_left : out ≡ over (dst3_fast O w) 0 m l → Halves m (sines a) b out
    sines_left is = over_left halves sines (sines_kept a halves.left) (rw same at is)

    pub cosines_right : out ≡ over (dct3_fast O w) m (2 * m) l → Halves m a (cosines b) out
    cosines_right is = over_right halves cosines (cosines_kept b halves.right) (rw same at is)

    pub sines_right : out ≡ over (dst3_fast O w) m (2 * m) l → Halves m a (sines b) out
    sines_right is = over_right halves sines (sines_kept b halves.right) (rw same at is)

  module _ {l out : List A} where
    pub dct4_is : Halves m (cosines (left_dct4 O m x)) (sines (right_dct4 O m x)) l → out ≡ merge_dct4 O W m (part 0 m l) (part m (2 * m) l)
        → out ≡ dct4_fast O W x
    dct4_is results is =
        is ∙ ap₂ (merge_dct4 O W m) (part_left results) (part_right results)
        ∙ sym (dct4_merged O W x (power.exponent - 1 - 1) m inner_power small (sym whole))

    pub dst4_is : Halves m (sines (left_dst4 O m x)) (cosines (right_dst4 O m x)) l → out ≡ merge_dst4 O W m (part 0 m l) (part m (2 * m) l)
        → out ≡ dst4_fast O W x
    dst4_is results is =
        is ∙ ap₂ (merge_dst4 O W m) (part_left results) (part_right results)
        ∙ sym (dst4_merged O W x (power.exponent - 1 - 1) m inner_power small (sym whole))
