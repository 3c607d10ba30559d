-- Powers of two: whole quarters (quarters_whole), whole halves (halves_whole), and half of one (half_power). Assumes nothing.
use mathlib.Core.Path.{◌≡◌}
use Prim.Native.Nat.{ℕ, zero, suc, ◌*◌, ◌-◌, ◌^◌, ◌/◌, ◌<◌, ◌≤◌}
use native.Mathlib.Nat as Nat
use native.Mathlib.Omega.{arith}

-- a power of two above 2 has whole quarters
pub quarters_whole : (e n : ℕ) → n ≡ 2 ^ e → 2 < n → 4 * (n / 4) ≡ n
quarters_whole zero n power large = absurd (let no : ⊥ = omega (arith, Nat.pow-zero 2) in no)
quarters_whole (suc zero) n power large = absurd (let no : ⊥ = omega (arith, Nat.pow-suc 2 0, Nat.pow-zero 2) in no)
quarters_whole (suc (suc e)) n power large = omega (arith, Nat.pow-suc 2 (suc e), Nat.pow-suc 2 e)

-- a power of two from 2 on is even
pub halves_whole : (e n : ℕ) → n ≡ 2 ^ e → 2 ≤ n → 2 * (n / 2) ≡ n
halves_whole zero n power enough = absurd (let no : ⊥ = omega (arith, Nat.pow-zero 2) in no)
halves_whole (suc e) n power enough = omega (arith, Nat.pow-suc 2 e)

-- half of a power of two is one
pub half_power : (e n : ℕ) → 1 ≤ n → 2 * n ≡ 2 ^ e → n ≡ 2 ^ (e - 1)
half_power zero n some power = absurd (let no : ⊥ = omega (arith, Nat.pow-zero 2) in no)
half_power (suc e) n some power =
    let less : suc e - 1 ≡ e = omega arith in
    rw less (omega (arith, Nat.pow-suc 2 e))
