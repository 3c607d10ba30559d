-- Lists of shots: what holds of each, and shots of n samples within a limit. Assumes nothing.
use Rattle.std.specs.Prelude.{◌≡◌, List, [], ◌∷◌, ℕ, ◌<◌, ◌≤◌, length, get_or, ℤ, pos, nat_abs}

-- P holds of each entry of a list
pub data Each {A : Type 0} (P : A → Type 0) : List A → Type 0 where
  none : Each P []
  more : {x : A} {rest : List A} → P x → Each P rest → Each P (x ∷ rest)

-- n samples, each from −limit to limit
pub record Samples (n limit : ℕ) (shot : List ℤ) : Type 0 where
  pub long : length shot ≡ n
  pub within : (k : ℕ) → k < n → nat_abs (get_or shot k (pos 0)) ≤ limit
