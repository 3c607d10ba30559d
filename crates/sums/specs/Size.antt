-- Document 01, "Sizes": the lengths that the fast routines and all residues allow. Assumes nothing.
use Rattle.std.specs.Prelude.{Bool, false, ◌||◌, ◌&&◌, List, [], ◌∷◌, ℕ, ◌^◌, leb, eqb}
use Rattle.ring.specs.Finite.{tab, first_place}

-- n is an entry of the list
unfoldable pub one_of : List ℕ → ℕ → Bool
one_of [] n = false
one_of (entry ∷ rest) n = eqb n entry || one_of rest n

-- 1, 2, 4, .., 1024
unfoldable pub powers_of_two : List ℕ
powers_of_two = tab 11 (λ k. 2 ^ k)

-- n is one of these
unfoldable pub power_of_two : ℕ → Bool
power_of_two n = one_of powers_of_two n

-- a power of two, 1 to 1024 for types 2 and 3, where least is 1, and 2 to 1024 for type 4 and the MDCT, where it is 2
unfoldable pub allowed_size : ℕ → ℕ → Bool
allowed_size least n = leb least n && power_of_two n

-- m, where n = 2^m is one of 1, 2, 4, .., 1024
unfoldable pub exponent_of : ℕ → ℕ
exponent_of n = first_place (eqb n) powers_of_two
