-- A number is even or odd, with the half that shows it. Assumes nothing.
use mathlib.Core.Path.{◌≡◌, refl}
use Prim.Native.Nat.{ℕ, zero, suc, ◌+◌, ◌*◌}
use native.Mathlib.Omega.{arith}

-- twice a number, or one more
pub data Parity (n : ℕ) : Type 0 where
  even : (u : ℕ) → n ≡ 2 * u → Parity n
  odd : (u : ℕ) → n ≡ 2 * u + 1 → Parity n

pub parity : (n : ℕ) → Parity n
parity zero = even 0 refl
parity (suc n) = next (parity n)
  where
    next : Parity n → Parity (suc n)
    next (even u e) = odd u (omega arith)
    next (odd u e) = even (suc u) (omega arith)
