-- The order of a turn's root: where 1 and −1 differ and n is a power of two, no power of the root below the 4n-th is 1. Assumes nothing.
use mathlib.Core.Path.{◌≡◌, refl, sym, ◌∙◌, ap}
use Prim.Native.Nat.{ℕ, zero, suc, ◌+◌, ◌*◌, ◌^◌, ◌<◌}
use native.Mathlib.Nat as Nat
use native.Mathlib.Omega.{arith}
use Rattle.ring.proofs.Ring as Ring
use Rattle.ring.proofs.Ring.{Ring}
use Rattle.ring.proofs.Sign.{sign_odd}
use Rattle.ring.proofs.Stride.{stride, stride_root}
use Rattle.ring.proofs.Turn.{Turn}
use Rattle.ring.proofs.Parity.{Parity, even, odd, parity}

module _ {C : Type 0} (R : Ring C) where
  odd_power : (n : ℕ) (W : Turn R n) (u : ℕ) → Ring.pow R W.root (2 * u + 1) ≡ R.one → R.one ≡ R.neg R.one
  odd_power n W u h =
      let turns : (2 * u + 1) * (2 * n) ≡ 2 * n * (2 * u + 1) = Nat.mul_comm (2 * u + 1) (2 * n) in
      sym (Ring.pow_mul R W.root (2 * u + 1) (2 * n) ∙ ap (λ (x : C). Ring.pow R x (2 * n)) h ∙ Ring.pow_of_one R (2 * n))
      ∙ ap (Ring.pow R W.root) turns ∙ Ring.pow_mul R W.root (2 * n) (2 * u + 1)
      ∙ ap (λ (x : C). Ring.pow R x (2 * u + 1)) W.half_turn ∙ sign_odd R u

  pub order : (e n : ℕ) → n ≡ 2 ^ e → (W : Turn R n) (k : ℕ) → 0 < k → k < 4 * n → Ring.pow R W.root k ≡ R.one
      → R.one ≡ R.neg R.one
  order zero n p W k low high h = by (parity k)
    where
      by : Parity k → R.one ≡ R.neg R.one
      by (odd u q) = odd_power n W u (ap (Ring.pow R W.root) (sym q) ∙ h)
      by (even u q) =
          let half : k ≡ 2 * n = omega (arith, p ∙ Nat.pow-zero 2) in
          sym h ∙ ap (Ring.pow R W.root) half ∙ W.half_turn
  order (suc e) n p W k low high h = by (parity k) (order e (2 ^ e) refl (stride R 2 (2 ^ e) n whole W))
    where
      whole : 2 * 2 ^ e ≡ n
      whole = sym (p ∙ Nat.two-pow-succ e ∙ sym (Nat.two-mul (2 ^ e)))

      by : Parity k
          → ((u : ℕ) → 0 < u → u < 4 * 2 ^ e → Ring.pow R (stride R 2 (2 ^ e) n whole W).root u ≡ R.one → R.one ≡ R.neg R.one)
          → R.one ≡ R.neg R.one
      by (odd u q) shorter = odd_power n W u (ap (Ring.pow R W.root) (sym q) ∙ h)
      by (even u q) shorter =
          shorter u (omega arith) (omega (arith, whole))
          (ap (λ (x : C). Ring.pow R x u) (stride_root R 2 (2 ^ e) n whole W) ∙ sym (Ring.pow_mul R W.root 2 u)
          ∙ ap (Ring.pow R W.root) (sym q) ∙ h)
