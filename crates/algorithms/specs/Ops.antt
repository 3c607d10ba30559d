-- The arithmetic that an algorithm is written over: the Rust's generic number, as a record of its operations. Residues and floats
-- are two instances, and equations between results at floats mean the same bits. Assumes nothing.
use Rattle.std.specs.Prelude.{List, ℕ, get_or}

pub record Ops (A : Type 0) : Type 0 where
  -- what stands past the end of a list
  pub none : A
  pub nought : A
  pub add : A → A → A
  pub sub : A → A → A
  pub mul : A → A → A
  pub neg : A → A
  -- twice and half a number
  pub double : A → A
  pub halve : A → A

-- x_i
abbrev pub at : {A : Type 0} → Ops A → List A → ℕ → A
at O x i = get_or x i O.none

-- the cosine and the sine at a/b of a turn
pub record Twiddles (A : Type 0) : Type 0 where
  pub cos : ℕ → ℕ → A
  pub sin : ℕ → ℕ → A
