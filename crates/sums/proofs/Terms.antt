-- Sums of numbers modulo p: the running remainder of a loop and one term more (sum_onward), reduced factors (sum_reduced), and a sum over one length after
-- another (sum_joined). Assumes nothing.
use mathlib.Core.Path.{◌≡◌, sym, ◌∙◌, ap, ap₂}
use Prim.Native.Nat.{ℕ, ◌+◌, ◌*◌, ◌%◌}
use native.Mathlib.Nat.{mod-add-mod}
use Rattle.ring.proofs.Modular.{of_eq, mod_eq, mod_mul, of_sum, of_add}
use Rattle.ring.proofs.Sum.{sum_ext, sum_split}
use Rattle.ring.proofs.Terms.{terms_more}
use Rattle.sums.specs.Residue.{p}
use Rattle.sums.specs.Transform.{sum}
use Rattle.sums.proofs.Constants.{above, Zp}

pub sum_onward : (n : ℕ) (f : ℕ → ℕ) {held term next : ℕ} → held ≡ sum n f % p → term ≡ f n → next ≡ (held + term) % p
    → next ≡ sum (n + 1) f % p
sum_onward n f is here onward =
    onward ∙ ap₂ (λ (a b : ℕ). (a + b) % p) is here ∙ mod-add-mod (sum n f) p (f n) ∙ ap (λ (a : ℕ). a % p) (sym (terms_more ◌+◌ 0 n f))

pub sum_reduced : (n : ℕ) (a c : ℕ → ℕ) → sum n (λ i. a i % p * c i) % p ≡ sum n (λ i. a i * c i) % p
sum_reduced n a c =
    mod_eq p _ _
    (of_sum p above n (λ i. a i % p * c i) ∙ sum_ext Zp n _ _ (λ i _. of_eq p _ _ (mod_mul (a i) (c i) p))
    ∙ sym (of_sum p above n (λ i. a i * c i)))

pub sum_joined : (m n : ℕ) (f : ℕ → ℕ) → sum (m + n) f % p ≡ (sum m f + sum n (λ i. f (m + i))) % p
sum_joined m n f =
    mod_eq p _ _
    (of_sum p above (m + n) f ∙ sum_split Zp m n _
    ∙ ap₂ Zp.add (sym (of_sum p above m f)) (sym (of_sum p above n (λ i. f (m + i))))
    ∙ sym (of_add p above (sum m f) (sum n (λ i. f (m + i)))))
