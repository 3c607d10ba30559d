-- The rule of the table, by one test that is computed over all of it: the first entry is 1, and each next entry is the one before times g, modulo p.
-- Each entry is then the power of g at its place, so the list is the table of document 01. Assumes nothing.
use mathlib.Core.Path.{◌≡◌, ap, subst, sym, ◌∙◌}
use mathlib.Core.Bool.{Bool, true, ◌&&◌}
use mathlib.Core.List.{List, [], ◌∷◌}
use Prim.Native.Nat.{ℕ, zero, suc, ◌+◌, ◌*◌, ◌^◌, ◌%◌, ◌<◌}
use native.Mathlib.Nat.{add-zero, add-suc, suc-add, zero-add, mul-one, pow-zero, le_of_suc-le-suc, not-suc-le-zero}
use lib.Dec.{T, eqb, eqb→eq}
use lib.ListN.{length, get_or}
use Rattle.ring.proofs.Below.{both_left, both_right}
use Rattle.ring.proofs.Table.{is_tab}
use Rattle.sums.specs.Residue.{p, g, powers_table}
use Rattle.sums.proofs.Powers.{power_next}

-- the first entry is x, and each next entry is the one before times g, modulo p. 350007156 is g, as a numeral, so that the test computes
abbrev pub geometric : ℕ → List ℕ → Bool
geometric x [] = true
geometric x (y ∷ ys) = eqb y x && geometric (y * 350007156 % p) ys

module _ (x y : ℕ) (ys : List ℕ) (t : T (geometric x (y ∷ ys))) where
  first : y ≡ x
  first = eqb→eq y x (both_left (eqb y x) (geometric (y * 350007156 % p) ys) t)

  rest : T (geometric (y * 350007156 % p) ys)
  rest = both_right (eqb y x) (geometric (y * 350007156 % p) ys) t

-- where the first entry is the power i, the entry at k is the power i + k
entry_from : (xs : List ℕ) (i : ℕ) → T (geometric (g ^ i % p) xs) → (k : ℕ) → k < length xs → get_or xs k 0 ≡ g ^ (i + k) % p
entry_from [] i t k h = absurd (not-suc-le-zero h)
entry_from (y ∷ ys) i t zero h = first (g ^ i % p) y ys t ∙ ap (λ (n : ℕ). g ^ n % p) (sym (add-zero i))
entry_from (y ∷ ys) i t (suc k) h =
    let next : y * 350007156 % p ≡ g ^ suc i % p = ap (λ (z : ℕ). z * 350007156 % p) (first (g ^ i % p) y ys t) ∙ power_next i in
    entry_from ys (suc i) (subst (λ (z : ℕ). T (geometric z ys)) next (rest (g ^ i % p) y ys t)) k (le_of_suc-le-suc h)
    ∙ ap (λ (n : ℕ). g ^ n % p) (suc-add i k ∙ sym (add-suc i k))

entry : (xs : List ℕ) → T (geometric 1 xs) → (k : ℕ) → k < length xs → get_or xs k 0 ≡ g ^ k % p
entry xs t k h =
    let one : 1 ≡ g ^ 0 % p = ap (λ (z : ℕ). z % p) (sym (pow-zero g)) in
    entry_from xs 0 (subst (λ (z : ℕ). T (geometric z xs)) one t) k h ∙ ap (λ (n : ℕ). g ^ n % p) (zero-add k)

pub is_powers : (xs : List ℕ) → length xs ≡ 8192 → T (geometric 1 xs) → xs ≡ powers_table 8192
unfolding powers_table
is_powers xs whole t =
    is_tab 0 xs 8192 whole
    (λ k h. entry xs t k (subst (λ (n : ℕ). k < n) (sym whole) h) ∙ ap (λ (n : ℕ). g ^ n % p) (sym (mul-one k)))
