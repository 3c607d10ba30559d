-- 1024 shifted right by as many places as a power of two has noughts at its end is 1024 divided by it (shifted): each of the eleven is tried. Assumes nothing.
use mathlib.Core.Path.{◌≡◌, sym, subst}
use Prim.Native.Nat.{ℕ, ◌*◌, ◌/◌, ◌^◌}
use native.Mathlib.Omega.{arith}
use lib.Count.{count_trailing_zeros}
use lib.Dec.{T, eqb, eqb→eq}
use Rattle.ring.specs.Finite.{all_below}
use Rattle.ring.proofs.Below.{all_below_at}
use Rattle.places.specs.Doubled.{Doubled}

abbrev units : ℕ → ℕ
units n = 1024 / 2 ^ count_trailing_zeros 64 n

tried : T (all_below 11 (λ t. eqb (units (2 ^ t) * 2 ^ t) 1024))
unfolding all_below count_trailing_zeros
tried = tt

pub shifted : (n : ℕ) → Doubled n → 1024 / 2 ^ count_trailing_zeros 64 n * n ≡ 1024
shifted n d =
    subst (λ (m : ℕ). units m * m ≡ 1024) (sym d.power)
    (eqb→eq (units (2 ^ d.times) * 2 ^ d.times) 1024 (all_below_at 11 (λ t. eqb (units (2 ^ t) * 2 ^ t) 1024) tried d.times (omega (arith, d.small))))
