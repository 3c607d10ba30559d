-- What a lent slice holds after its first entries were overwritten, and a part of it: its entries, and the slice with them replaced. Over any type of entry, so that residues and floats share it.
-- Assumes nothing.
use Rattle.std.specs.Prelude.{List, ◌++◌, ℕ, ◌-◌, length, take, drop, replicate}

-- the first n entries are z, the rest untouched: document 01, "Sizes", of scratch after an accepted call
abbrev pub cleared : {A : Type 0} → A → ℕ → List A → List A
cleared z n s = replicate n z ++ drop n s

-- `from`, then the entries of `to` beyond it
abbrev pub copied : {A : Type 0} → List A → List A → List A
copied from to = from ++ drop (length from) to

-- the entries from a up to b
abbrev pub part : {A : Type 0} → ℕ → ℕ → List A → List A
part a b s = take (b - a) (drop a s)

-- s with its entries from a up to b replaced by what f makes of them
abbrev pub over : {A : Type 0} → (List A → List A) → ℕ → ℕ → List A → List A
over f a b s = take a s ++ (f (part a b s) ++ drop (b - a) (drop a s))
