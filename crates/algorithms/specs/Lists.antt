-- How the algorithms lay entries out: read backwards, in quarters, in groups of four, negated by turns. Over any type of entry. Assumes nothing.
use Rattle.std.specs.Prelude.{List, ◌++◌, ℕ, zero, suc, ◌-◌, ◌%◌, ◌/◌, length}
use Rattle.ring.specs.Finite.{tab}
use Rattle.algorithms.specs.Ops.{Ops, at}

-- f (n − 1), .., f 1, f 0
unfoldable pub back : {A : Type 0} → ℕ → (ℕ → A) → List A
back n f = tab n (λ k. f (n - 1 - k))

-- the entries of x from the last to the first
unfoldable pub reversed : {A : Type 0} → Ops A → List A → List A
reversed O x = back (length x) (at O x)

-- four quarters of n entries, the second and the fourth backwards: what stores at k, 2n − 1 − k, 2n + k and 4n − 1 − k for each k leave
unfoldable pub quarters : {A : Type 0} → ℕ → (ℕ → A) → (ℕ → A) → (ℕ → A) → (ℕ → A) → List A
quarters n first second third fourth = tab n first ++ (back n second ++ (tab n third ++ back n fourth))

-- which of four it is at the remainder r
abbrev pub pick_four : {A : Type 0} → (ℕ → A) → (ℕ → A) → (ℕ → A) → (ℕ → A) → ℕ → ℕ → A
pick_four a b c d zero n = a n
pick_four a b c d (suc zero) n = b n
pick_four a b c d (suc (suc zero)) n = c n
pick_four a b c d (suc (suc (suc r))) n = d n

-- entry 4n is a n, 4n + 1 is b n, 4n + 2 is c n, 4n + 3 is d n
unfoldable pub by_fours : {A : Type 0} → (ℕ → A) → (ℕ → A) → (ℕ → A) → (ℕ → A) → ℕ → A
by_fours a b c d m = pick_four a b c d (m % 4) (m / 4)

abbrev pub turned_by : {A : Type 0} → Ops A → ℕ → A → A
turned_by O zero v = v
turned_by O (suc r) v = O.neg v

-- negated where m is odd
abbrev pub turned : {A : Type 0} → Ops A → ℕ → A → A
turned O m v = turned_by O (m % 2) v

-- the entries of x, negated at odd places
unfoldable pub alternated : {A : Type 0} → Ops A → List A → List A
alternated O x = tab (length x) (λ k. turned O k (at O x k))
