-- Numbers that an arithmetic keeps among themselves: what every operation gives is a number again, whatever it is given, and so is what stands past the end of a list. Assumes nothing.
use Rattle.std.specs.Prelude.{◌≡◌, List, ℕ, ◌<◌, length}
use Rattle.algorithms.specs.Ops.{Ops, at}

pub record Closed {A : Type 0} (O : Ops A) (Fits : A → Type 0) : Type 0 where
  pub none : Fits O.none
  pub nought : Fits O.nought
  pub add : (a b : A) → Fits (O.add a b)
  pub sub : (a b : A) → Fits (O.sub a b)
  pub mul : (a b : A) → Fits (O.mul a b)
  pub neg : (a : A) → Fits (O.neg a)
  pub double : (a : A) → Fits (O.double a)
  pub halve : (a : A) → Fits (O.halve a)

-- to clone a value never fails and gives the same value
pub record Plain {A : Type 0} (infallible : A → Type 0) (clones : A → A → Type 0) : Type 0 where
  pub always : (a : A) → infallible a
  pub same : (a b : A) → clones a b → b ≡ a

-- every entry of a list is a number
pub record AllFit {A : Type 0} (O : Ops A) (Fits : A → Type 0) (x : List A) : Type 0 where
  pub each : (k : ℕ) → k < length x → Fits (at O x k)
