-- The quarter length of a step is a power of two (quarter_power, quarter_small), and three parts of 2q, q and q entries which follow each other can be transformed in
-- place one after the other, each by whatever serves its length (ready_first, ready_second, ready_third). Over any numbers. Assumes nothing.
use mathlib.Core.Path.{◌≡◌, ◌∙◌, ap}
use mathlib.Core.List.{List}
use Prim.Native.Nat.{ℕ, ◌*◌, ◌-◌, ◌^◌, ◌≤◌}
use native.Mathlib.Omega.{arith}
use lib.ListN.{length, take}
use lib.Seq.{length-take-le}
use Rattle.ring.specs.Part.{part}
use Rattle.ring.proofs.Parts.{Parts, parts_length, part_second, part_third}
use Rattle.ring.proofs.Powers.{half_power}
use Rattle.algorithms.specs.Ops.{Ops}
use Rattle.numbers.specs.Closed.{AllFit}
use Rattle.split.specs.Served.{Power}
use Rattle.split.specs.Ready.{InPlace}
use Rattle.split.proofs.Parts.{part_ready, front_is}

module _ {q : ℕ} (some : 1 ≤ q) (power : Power (4 * q)) where
  pub quarter_power : q ≡ 2 ^ (power.exponent - 1 - 1)
  quarter_power =
      let twice : 2 * (2 * q) ≡ 2 ^ power.exponent = omega (arith, power.power) in
      half_power (power.exponent - 1) q some (half_power power.exponent (2 * q) (omega arith) twice)

  pub quarter_small : power.exponent - 1 - 1 ≤ 9
  quarter_small = omega (arith, power.small)

module _ {A W : Type 0} {O : Ops A} {Fits : A → Type 0} {serves : W → ℕ → Type 0} {w : W} where
  -- what was lent is a list m of n entries, and the scratch the first n of y
  cut : {n : ℕ} (y : List A) {held m : List A} → held ≡ m → length m ≡ n → serves w n → AllFit O Fits m → n ≤ length y
      → InPlace O Fits serves w held (take n y)
  cut {n} y is size served numbers room = rw is (part_ready served numbers size (length-take-le n y room))

  -- with y as the inner scratch
  module _ {q : ℕ} {h c d l : List A} (parts : Parts q h c d l) (y : List A) (room : length y ≡ 4 * q) where
    pub ready_first : serves w (2 * q) → AllFit O Fits h → InPlace O Fits serves w (take (2 * q) l) (take (2 * q) y)
    ready_first served numbers = cut y (front_is parts) parts.half served numbers (omega (arith, room))

    pub ready_second : serves w q → AllFit O Fits c → InPlace O Fits serves w (part (2 * q) (3 * q) l) (take q y)
    ready_second served numbers = cut y (part_second parts) parts.third_quarter served numbers (omega (arith, room))

    -- the last part goes up to the end
    pub ready_third : serves w q → AllFit O Fits d → InPlace O Fits serves w (part (3 * q) (length l) l) (take q y)
    ready_third served numbers =
        cut y (ap (λ (n : ℕ). part (3 * q) n l) (parts_length parts) ∙ part_third parts) parts.fourth_quarter served numbers (omega (arith, room))
