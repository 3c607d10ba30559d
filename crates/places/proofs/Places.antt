-- Places kept below the length of a table by taking whole turns off: the remainder of a step (remainder_short, remainder_past), and of an arithmetic progression
-- (place_first, place_onward, turns_off); a remainder is a place (place_below). Assumes nothing.
use mathlib.Core.Path.{◌≡◌, sym, ◌∙◌, ap}
use Prim.Native.Nat.{ℕ, ◌+◌, ◌*◌, ◌-◌, ◌%◌, ◌<◌, ◌≤◌}
use native.Mathlib.Nat as Nat
use native.Mathlib.Omega.{arith}
use Rattle.ring.proofs.Modular.{mul_mod}

-- what is not past the end stays, and what is past it by less than a turn loses one
pub remainder_short : (a n : ℕ) → a < n → a ≡ a % n
remainder_short a n below = sym (Nat.mod-eq_of_lt below)

pub remainder_past : (a n : ℕ) → n ≤ a → a - n < n → a - n ≡ a % n
remainder_past a n past below =
    sym (ap (λ (x : ℕ). x % n) back ∙ Nat.add-mod_right (a - n) n ∙ Nat.mod-eq_of_lt below)
  where
    back : a ≡ a - n + n
    back = omega arith

-- one step more of a progression
pub place_first : (n first step : ℕ) → first < n → first ≡ (first + 0 * step) % n
place_first n first step below = sym (ap (λ (x : ℕ). x % n) (omega arith) ∙ Nat.mod-eq_of_lt below)

pub place_onward : (n first step i : ℕ) {at next : ℕ} → at ≡ (first + i * step) % n → next ≡ (at + step) % n
    → next ≡ (first + (i + 1) * step) % n
place_onward n first step i is onward =
    onward ∙ ap (λ (x : ℕ). (x + step) % n) is ∙ Nat.mod-add-mod (first + i * step) n step ∙ ap (λ (x : ℕ). x % n) (omega arith)

pub place_below : (n a : ℕ) {at : ℕ} → 0 < n → at ≡ a % n → at < n
place_below n a above is = rw is (Nat.mod-lt a above)

-- whole turns taken off the first place and off the step
pub turns_off : (n a b i : ℕ) → (a % n + i * (b % n)) % n ≡ (a + i * b) % n
turns_off n a b i =
    Nat.mod-add-mod a n (i * (b % n)) ∙ sym (Nat.add-mod-mod a (i * (b % n)) n) ∙ ap (λ (z : ℕ). (a + z) % n) (mul_mod i b n)
    ∙ Nat.add-mod-mod a (i * b) n
