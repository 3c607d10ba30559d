-- Document 01, "The sums": residue windows of 2N entries, and when one is accepted. Assumes nothing.
use Rattle.std.specs.Prelude.{Bool, ◌&&◌, List, ℕ, ◌+◌, ◌*◌, ◌-◌, ◌^◌, ◌%◌, eqb}
use Rattle.ring.specs.Finite.{all_below, tab}
use Rattle.sums.specs.Residue.{p, √2, √2⁻¹}
use Rattle.sums.specs.Angle.{sin_turn}
use Rattle.sums.specs.Transform.{entry}

-- w_n = w_{2N−1−n}
abbrev pub mirrored : ℕ → List ℕ → ℕ → Bool
mirrored N w n = eqb (entry w n) (entry w (2 * N - 1 - n))

-- N·(w_n² + w_{N+n}²) = 2 mod p
abbrev pub power_two : ℕ → List ℕ → ℕ → Bool
power_two N w n = eqb (N * (entry w n * entry w n + entry w (N + n) * entry w (N + n)) % p) 2

-- the first for all n, the second for n < N
abbrev pub symmetric_window : ℕ → List ℕ → Bool
symmetric_window N w = all_below (2 * N) (mirrored N w)

abbrev pub unit_power : ℕ → List ℕ → Bool
unit_power N w = all_below N (power_two N w)

-- a residue window of 2N entries is accepted exactly if both hold, whoever made it
unfoldable pub accepted_window : ℕ → List ℕ → Bool
accepted_window N w = symmetric_window N w && unit_power N w

-- With N = 2^m, the flat window is (√2)^−m everywhere
unfoldable pub flat_window : ℕ → List ℕ
flat_window m = tab (2 * 2 ^ m) (λ n. √2⁻¹ ^ m % p)

-- the sine window is sin(π(2n+1)/(4N))·(√2)^(1−m)
unfoldable pub sine_window : ℕ → List ℕ
sine_window m = tab (2 * 2 ^ m) (λ n. sin_turn (2 * n + 1) (8 * 2 ^ m) * (√2 * √2⁻¹ ^ m) % p)
