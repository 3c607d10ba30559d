-- What `turned` is at even and at odd numbers, for a test that tells them apart. Over any type of entry. Assumes nothing.
use mathlib.Core.Path.{◌≡◌, ap}
use Prim.Native.Nat.{ℕ, ◌%◌}
use native.Mathlib.Omega.{arith}
use Rattle.algorithms.specs.Ops.{Ops}
use Rattle.algorithms.specs.Lists.{turned, turned_by}

module _ {A : Type 0} (O : Ops A) (m : ℕ) (v : A) where
  pub turned_even : m % 2 ≡ 0 → turned O m v ≡ v
  turned_even even = ap (λ (r : ℕ). turned_by O r v) even

  pub turned_odd : (m % 2 ≡ 0 → ⊥) → turned O m v ≡ O.neg v
  turned_odd odd = let one : m % 2 ≡ 1 = omega arith in ap (λ (r : ℕ). turned_by O r v) one
