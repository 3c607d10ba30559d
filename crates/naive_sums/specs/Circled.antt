-- What a table of a whole turn keeps: it has a place, and at most 8192; what it holds are numbers; and where u of its places make up 1/b of a turn, a·u of them make up a/b.
-- Where only the cosines or only the sines are read, they serve as both (read_twiddles). What stands at the places of a turn, one after the other, makes a list (read_table).
-- Assumes nothing.
use Rattle.std.specs.Prelude.{◌≡◌, List, ℕ, ◌*◌, ◌≤◌}
use Rattle.ring.specs.Finite.{tab}
use Rattle.algorithms.specs.Ops.{Twiddles}

pub record Circled {A C : Type 0} (Fits : A → Type 0) (reads : C → ℕ → ℕ → A) (turn : C → ℕ) (sound : C → Type 0) : Type 0 where
  pub some : (c : C) → sound c → 1 ≤ turn c
  pub small : (c : C) → sound c → turn c ≤ 8192
  pub number : (c : C) (a b : ℕ) → Fits (reads c a b)
  pub units : (c : C) (u a b : ℕ) → sound c → u * b ≡ turn c → reads c (a * u) (turn c) ≡ reads c a b

abbrev pub read_twiddles : {A : Type 0} → (ℕ → ℕ → A) → Twiddles A
read_twiddles reads = record { cos = reads; sin = reads }

abbrev pub read_table : {A : Type 0} → (ℕ → ℕ → A) → ℕ → List A
read_table reads turn = tab turn (λ i. reads i turn)
