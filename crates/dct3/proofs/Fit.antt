-- What stands at a place of a list of numbers is a number (fit_read). Over any arithmetic. Assumes nothing.
use mathlib.Core.Path.{◌≡◌}
use mathlib.Core.List.{List}
use Prim.Native.Nat.{ℕ, ◌<◌}
use lib.ListN.{length, get_or}
use Rattle.std.proofs.lemmas.List.{get_or_read}
use Rattle.algorithms.specs.Ops.{Ops}
use Rattle.numbers.specs.Closed.{AllFit}

pub fit_read : {A : Type 0} {O : Ops A} {Fits : A → Type 0} {x : List A} {k : ℕ} {v : A} → AllFit O Fits x → v ≡ get_or x k v → k < length x → Fits v
fit_read {O = O} {x = x} {k = k} {v = v} numbers is below = rw (get_or_read x k v below is O.none) (numbers.each k below)
