-- The cosine from the two entries of a table of powers that are opposite: the way from the code's sum and half to the definition. Assumes nothing.
use mathlib.Core.Path.{◌≡◌, ap, ◌∙◌}
use mathlib.Core.List.{List}
use Prim.Native.Nat.{ℕ, ◌+◌, ◌*◌, ◌%◌, ◌<◌}
use lib.ListN.{length, get_or}
use Rattle.ring.proofs.Modular.{mod_mul}
use Rattle.sums.specs.Residue.{p, half, Powers}
use Rattle.sums.specs.Angle.{cos_turn}
use Rattle.sums.proofs.Powers.{cos_from}

-- two places of a table of n entries that make up some whole turns
pub record Opposite (n k back : ℕ) : Type 0 where
  pub turns : ℕ
  pub below : back < n
  pub whole : k + back ≡ n * turns

module _ (t : List ℕ) (P : Powers t) (k back : ℕ) (below : k < length t) (o : Opposite (length t) k back) where
  pub cos_opposite : {s r : ℕ} → s ≡ (get_or t k 0 + get_or t back 0) % p → r ≡ s * half % p → r ≡ cos_turn k (length t)
  cos_opposite sum halved =
      halved ∙ ap (λ (x : ℕ). x * half % p) sum ∙ mod_mul (get_or t k 0 + get_or t back 0) half p
      ∙ cos_from t P k back o.turns below o.below o.whole
