-- Finite families given by a function of the index, which runs from 0: their sum, their list, and a test of them all. And the first place of a list that passes a test.
-- Over any type and any operation, so that whole numbers, residues and floats share them. Assumes nothing.
use Rattle.std.specs.Prelude.{Bool, true, false, ◌&&◌, List, [], ◌∷◌, ℕ, zero, suc}

-- f 0 + f 1 + .. + f (n − 1), added up from the left, beginning with the nought
unfoldable pub sum_of : {A : Type 0} → (A → A → A) → A → ℕ → (ℕ → A) → A
sum_of add nought zero f = nought
sum_of add nought (suc n) f = add (sum_of add nought n f) (f n)

-- the list f 0, f 1, .., f (n − 1)
unfoldable pub tab : {A : Type 0} → ℕ → (ℕ → A) → List A
tab zero f = []
tab (suc n) f = f zero ∷ tab n (λ k. f (suc k))

-- the test holds at 0, 1, .., n − 1
unfoldable pub all_below : ℕ → (ℕ → Bool) → Bool
all_below zero test = true
all_below (suc n) test = all_below n test && test n

-- here if the test says so, else one place beyond what the rest says
abbrev pub place_by : Bool → ℕ → ℕ
place_by true rest = zero
place_by false rest = suc rest

-- the place of the first entry that passes the test, or the length where there is none
unfoldable pub first_place : {A : Type 0} → (A → Bool) → List A → ℕ
first_place test [] = zero
first_place test (entry ∷ rest) = place_by (test entry) (first_place test rest)
