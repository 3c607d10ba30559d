-- Stores at every place of a list of one or of two entries leave what was stored. Over any type of entry. Assumes nothing.
use mathlib.Core.Path.{◌≡◌, refl}
use mathlib.Core.List.{List, [], ◌∷◌}
use native.Mathlib.Nat as Nat
use native.Mathlib.Omega.{arith}
use lib.ListN.{length, set}

module _ {A : Type 0} where
  pub set_single : (x : List A) (v : A) → length x ≡ 1 → set x 0 v ≡ v ∷ []
  set_single [] v size = absurd (Nat.lt_irrefl 0 (omega arith))
  set_single (a ∷ []) v size = refl
  set_single (a ∷ b ∷ x) v size = absurd (Nat.lt_irrefl 0 (omega arith))

  pub set_pair : (x : List A) (u v : A) → length x ≡ 2 → set (set x 0 u) 1 v ≡ u ∷ v ∷ []
  set_pair [] u v size = absurd (Nat.lt_irrefl 0 (omega arith))
  set_pair (a ∷ []) u v size = absurd (Nat.lt_irrefl 0 (omega arith))
  set_pair (a ∷ b ∷ []) u v size = refl
  set_pair (a ∷ b ∷ c ∷ x) u v size = absurd (Nat.lt_irrefl 0 (omega arith))
