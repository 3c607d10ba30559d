-- What the routines of type 4 ask of what they are lent, over any numbers. Assumes nothing.
use Rattle.std.specs.Prelude.{◌≡◌, List, ℕ, ◌*◌, ◌≤◌, length}
use Rattle.algorithms.specs.Ops.{Ops}
use Rattle.numbers.specs.Closed.{AllFit}

module _ {A : Type 0} (O : Ops A) (Fits : A → Type 0) where
  -- 2m entries dealt out from one slice to the other
  pub record Split (m : ℕ) (from to : List A) : Type 0 where
    pub some : 1 ≤ m
    pub numbers : AllFit O Fits from
    pub from_length : length from ≡ 2 * m
    pub to_length : length to ≡ 2 * m

module _ {A W : Type 0} (O : Ops A) (Fits : A → Type 0) (serves : W → ℕ → Type 0) where
  -- a transform in place: it turns by half the angles that a transform of type 2 or 3 of its length does, and so asks for what serves one of twice as many entries
  pub record Ready (w : W) (x s : List A) : Type 0 where
    pub served : serves w (2 * length x)
    pub some : 2 ≤ length x
    pub numbers : AllFit O Fits x
    pub same : length s ≡ length x

  -- two results of m entries merged from one slice into the other
  pub record Merge (w : W) (m : ℕ) (from to : List A) : Type 0 where
    pub served : serves w (4 * m)
    pub numbers : AllFit O Fits from
    pub from_length : length from ≡ 2 * m
    pub to_length : length to ≡ 2 * m
