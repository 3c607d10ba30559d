-- The first of so many zeros are zeros. Assumes nothing.
use Rattle.std.specs.Prelude.{◌≡◌, ℕ, ◌≤◌, take, replicate}
use Rattle.std.proofs.lemmas.List.{take-replicate}

pub zeros_taken : (n : ℕ) → n ≤ 4096 → take {A = ℕ} n (replicate 4096 0) ≡ replicate n 0
zeros_taken n within = take-replicate n 4096 0 within
