-- The product of a u32 and a residue fits a u64 (product_fits), and it does not matter whether a factor was reduced before (factor_reduced). Assumes nothing.
use mathlib.Core.Path.{◌≡◌, ap, ◌∙◌}
use Prim.Native.Nat.{ℕ, ◌*◌, ◌%◌, ◌≤◌, ◌<◌}
use native.Mathlib.Nat as Nat
use native.Mathlib.Omega.{arith}
use Rattle.ring.proofs.Modular.{mul_mod}
use Rattle.sums.specs.Residue.{p}

pub product_fits : (a b : ℕ) → a < 4294967296 → b < p → a * b < 18446744073709551616
product_fits a b small residue =
    let left : a ≤ 4294967295 = omega arith in
    let right : b ≤ p = omega arith in
    let fits : a * b ≤ 4294967295 * p = Nat.mul-le-mul left right in
    omega arith

pub factor_reduced : (a b : ℕ) → a * (b % p) % p ≡ b * a % p
factor_reduced a b = mul_mod a b p ∙ ap (λ (x : ℕ). x % p) (Nat.mul_comm a b)
