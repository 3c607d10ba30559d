-- A step of DCT-II. Scratch holds three parts, which the split makes of the three inner inputs (parted), and each of the three inner transforms puts its result where its
-- input was (first_made, second_made, third_made), given by whatever serves its length (the inputs are numbers: `Results`). What the merge then makes of it is the transform of the whole
-- (step_merged), and the sine transform is the cosine transform with signs and order changed around it (sines_turned). Over any numbers. Assumes nothing.
use mathlib.Core.Path.{◌≡◌, refl, sym, ◌∙◌, ap}
use mathlib.Core.List.{List, ◌++◌}
use Prim.Native.Nat.{ℕ, ◌*◌, ◌-◌, ◌^◌, ◌≤◌}
use native.Mathlib.Omega.{arith}
use lib.ListN.{length, take, drop}
use lib.Pow.{pow_mono}
use Rattle.ring.specs.Part.{part}
use Rattle.ring.proofs.Parts.{Parts, parts_length, part_second, part_third, lent, lent_second, lent_third}
use Rattle.ring.proofs.Powers.{half_power}
use Rattle.algorithms.specs.Ops.{Ops, Twiddles}
use Rattle.algorithms.specs.Lists.{alternated, reversed}
use Rattle.algorithms.specs.Split.{input_dct2, input_dct4_even, input_dct4_odd, split_two}
use Rattle.algorithms.specs.Fast.{dct2_fast, dst2_fast}
use Rattle.algorithms.proofs.PartsTwo.{inputs_parted, parts_merged, parts_merged_are}
use Rattle.algorithms.proofs.Fast.{dct2_length, dct2_step, dst2_turned}
use Rattle.split.specs.Served.{Power, Served}
use Rattle.split.specs.Ready.{Step}
use Rattle.numbers.specs.Closed.{Closed, AllFit}
use Rattle.split.proofs.Numbers.{fit_append}
use Rattle.split.proofs.Parts.{front_is, lent_front}
use Rattle.split.proofs.Results.{fit_half, fit_cosines, fit_sines, fit_dct2}

-- the exponents of a quarter of a length, and of its double
module _ (q : ℕ) (some : 1 ≤ q) (power : Power (4 * q)) where
  two_power : 2 * q ≡ 2 ^ (power.exponent - 1)
  two_power = let twice : 4 * q ≡ 2 * (2 * q) = omega arith in half_power power.exponent (2 * q) (omega arith) (sym twice ∙ power.power)

  quarter_power : q ≡ 2 ^ (power.exponent - 1 - 1)
  quarter_power = half_power (power.exponent - 1) q some two_power

module _ {A B : Type 0} {O : Ops A} {Fits : A → Type 0} {turn : B → Twiddles A} {serves : B → ℕ → Type 0} (closed : Closed O Fits)
    (law : Served Fits turn serves) {by : B} {q : ℕ} {x s : List A} (step : Step O Fits serves by q x s) where
  abbrev W : Twiddles A
  W = turn by

  abbrev fast : List A → List A
  fast = dct2_fast O W

  power : Power (4 * q)
  power = law.power by (4 * q) step.served

  -- scratch after the split, and after each of the three calls
  abbrev Held : (List A → List A) → (List A → List A) → (List A → List A) → List A → Type 0
  Held f g h = Parts q (f (input_dct2 O q x)) (g (input_dct4_even O W q x)) (h (input_dct4_odd O W q x))

  abbrev as_is : List A → List A
  as_is l = l

  pub parted : {l : List A} → l ≡ split_two O W q x → Held as_is as_is as_is l
  parted is = inputs_parted O W q x is

  module _ {w : Twiddles A} {l last : List A} (same : w ≡ W) where
    pub first_made : Held as_is as_is as_is l → last ≡ dct2_fast O w (take (2 * q) l) → Held fast as_is as_is (last ++ drop (2 * q) l)
    first_made held made =
        lent_front held fast
        (dct2_length O W (input_dct2 O q x) (power.exponent - 1) (omega (arith, power.small)) (held.half ∙ two_power q step.some power)) (rw same at made)

    pub second_made : Held fast as_is as_is l → last ≡ dct2_fast O w (part (2 * q) (3 * q) l) → Held fast fast as_is (lent (2 * q) (3 * q) l last)
    second_made held made =
        lent_second held fast
        (dct2_length O W (input_dct4_even O W q x) (power.exponent - 1 - 1) (omega (arith, power.small)) (held.third_quarter ∙ quarter_power q step.some power))
        (rw same at made) refl

    pub third_made : {n : ℕ} → n ≡ 4 * q → Held fast fast as_is l → last ≡ dct2_fast O w (part (3 * q) n l) → Held fast fast fast (lent (3 * q) n l last)
    third_made all held made =
        lent_third held fast all
        (dct2_length O W (input_dct4_odd O W q x) (power.exponent - 1 - 1) (omega (arith, power.small)) (held.fourth_quarter ∙ quarter_power q step.some power))
        (rw same at made) refl

  -- what each inner transform, and the merge, is given are as many numbers as it is told
  module _ {l : List A} where
    pub first_given : Held as_is as_is as_is l → AllFit O Fits (take (2 * q) l) × (length (take (2 * q) l) ≡ 2 * q)
    first_given held = (rw (front_is held) (fit_half closed W q x), rw (front_is held) held.half)

    pub second_given : Held fast as_is as_is l → AllFit O Fits (part (2 * q) (3 * q) l) × (length (part (2 * q) (3 * q) l) ≡ q)
    second_given held = (rw (part_second held) (fit_cosines closed W q x), rw (part_second held) held.third_quarter)

    pub third_given : {n : ℕ} → n ≡ 4 * q → Held fast fast as_is l → AllFit O Fits (part (3 * q) n l) × (length (part (3 * q) n l) ≡ q)
    third_given all held = rw all (rw (part_third held) (fit_sines closed W q x), rw (part_third held) held.fourth_quarter)

    pub merge_given : Held fast fast fast l → AllFit O Fits l × (length l ≡ 4 * q)
    merge_given held = (
      rw held.is (fit_append _ _ (fit_dct2 closed W _) (fit_append _ _ (fit_dct2 closed W _) (fit_dct2 closed W _))),
      parts_length held,
    )

  pub merge_small : q ≤ 512
  merge_small = let most : 2 ^ power.exponent ≤ 2048 = pow_mono power.small in omega (arith, power.power)

  pub step_merged : {l out : List A} → Held fast fast fast l → out ≡ parts_merged O q l → out ≡ fast x
  step_merged parts is =
      is ∙ parts_merged_are O q parts
      ∙ sym (dct2_step O W x (power.exponent - 1 - 1) q (quarter_power q step.some power) (omega (arith, power.small)) step.from_length)

  pub sines_turned : {y z out : List A} → y ≡ alternated O x → z ≡ fast y → out ≡ reversed O z → out ≡ dst2_fast O W x
  sines_turned signed made is =
      is ∙ ap (reversed O) (made ∙ ap fast signed)
      ∙ sym (dst2_turned O W x (power.exponent - 1 - 1) q (quarter_power q step.some power) (omega (arith, power.small)) step.from_length)
