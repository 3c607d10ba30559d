-- Where the sum over a segment of n terms ends, whole turns of 4n places taken off: n steps of 2k + 1 are n places where k is even (segment_even), else 3n (segment_odd).
-- Assumes nothing.
use mathlib.Core.Path.{◌≡◌, sym, ◌∙◌, ap}
use Prim.Native.Nat.{ℕ, ◌+◌, ◌*◌, ◌/◌, ◌%◌}
use native.Mathlib.Nat as Nat
use native.Mathlib.Omega.{arith}

-- whole turns taken off leave the remainder
whole_turns : (turn a b t : ℕ) → a + turn * t ≡ b → a % turn ≡ b % turn
whole_turns turn a b t is = sym (Nat.add-mul-mod_self_left a turn t) ∙ ap (λ (z : ℕ). z % turn) is

module _ (n k first : ℕ) where
  pub segment_even : k % 2 ≡ 0 → (first + n) % (4 * n) ≡ (first + n * (2 * k + 1)) % (4 * n)
  segment_even is =
      let half : 2 * (k / 2) ≡ k = omega arith in
      whole_turns (4 * n) (first + n) (first + n * (2 * k + 1)) (k / 2) (omega (arith, ap (λ (z : ℕ). n * z) half))

  pub segment_odd : (k % 2 ≡ 0 → ⊥) → (first + 3 * n) % (4 * n) ≡ (first + n * (2 * k + 1)) % (4 * n)
  segment_odd is =
      let half : 2 * (k / 2) + 1 ≡ k = omega arith in
      whole_turns (4 * n) (first + 3 * n) (first + n * (2 * k + 1)) (k / 2) (omega (arith, ap (λ (z : ℕ). n * z) half))
