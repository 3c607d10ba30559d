-- What the size of an accepted fast call allows: to ask for the unit of its length (size_doubled). Assumes nothing.
use Prim.Native.Nat.{ℕ}
use Rattle.floats.specs.Accepted.{Size}
use Rattle.places.specs.Doubled.{Doubled}

module _ {least n : ℕ} (size : Size least n) where
  pub size_doubled : Doubled n
  size_doubled = record { times = size.exponent; small = size.small; power = size.power }
