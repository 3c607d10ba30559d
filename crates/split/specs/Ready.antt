-- What the routines of split radix ask of what they are lent, over any numbers. Assumes nothing.
use Rattle.std.specs.Prelude.{◌≡◌, List, ℕ, ◌*◌, ◌-◌, ◌≤◌, length}
use Rattle.ring.specs.Part.{part}
use Rattle.algorithms.specs.Ops.{Ops}
use Rattle.numbers.specs.Closed.{AllFit}

module _ {A W : Type 0} (O : Ops A) (Fits : A → Type 0) (serves : W → ℕ → Type 0) where
  -- a transform in place: scratch has as many entries as the buffer x
  pub record InPlace (w : W) (x s : List A) : Type 0 where
    pub served : serves w (length x)
    pub numbers : AllFit O Fits x
    pub same : length s ≡ length x

  -- one step at 4q entries, from one slice to the other
  pub record Step (w : W) (q : ℕ) (from to : List A) : Type 0 where
    pub served : serves w (4 * q)
    pub some : 1 ≤ q
    pub numbers : AllFit O Fits from
    pub from_length : length from ≡ 4 * q
    pub to_length : length to ≡ 4 * q

  -- a transform of the entries from a up to b of s, with the front of x as scratch
  pub record PartInPlace (w : W) (s : List A) (a b : ℕ) (x : List A) : Type 0 where
    pub served : serves w (b - a)
    pub numbers : AllFit O Fits (part a b s)
    pub from_to : a ≤ b
    pub within : b ≤ length s
    pub room : b - a ≤ length x
