-- The powers of g modulo p: how each follows from the one before, and that a table of them is one that a transform may be lent. Assumes nothing.
use mathlib.Core.Path.{◌≡◌, ap, ap₂, sym, subst, ◌∙◌}
use mathlib.Core.List.{List}
use Prim.Native.Nat.{ℕ, suc, ◌+◌, ◌*◌, ◌^◌, ◌%◌, ◌/◌, ◌<◌}
use native.Mathlib.Nat.{add-mul, mod-lt, mod-mod, pow-suc}
use native.Mathlib.Omega.{arith}
use lib.ListN.{length, get_or}
use Rattle.ring.proofs.Modular.{mod_mul}
use Rattle.ring.proofs.Table.{length_tab, get_or_tab}
use Rattle.sums.specs.Residue.{p, half, g, g⁻¹, powers_table, Powers}
use Rattle.sums.specs.Angle.{cos_of, cos_turn}
use Rattle.sums.proofs.Constants.{above, g_is, reduced}
use Rattle.sums.proofs.Angles.{inverse_power}

pub power_next : (k : ℕ) → g ^ k % p * 350007156 % p ≡ g ^ suc k % p
power_next k =
    ap (λ (x : ℕ). g ^ k % p * x % p) (sym g_is) ∙ mod_mul (g ^ k) g p ∙ ap (λ (x : ℕ). x % p) (sym (pow-suc g k))

pub powers_length : (n : ℕ) → length (powers_table n) ≡ n
unfolding powers_table
powers_length n = length_tab n (λ k. g ^ (k * (8192 / n)) % p)

pub powers_of : (n : ℕ) → 8192 / n * n ≡ 8192 → Powers (powers_table n)
powers_of n whole = record {
  whole = rw powers_length whole;
  rule = ap powers_table (sym (powers_length n));
}

-- what a function that hands out such a table ensures of it
pub table_powers : (n : ℕ) (t : List ℕ) → 8192 / n * n ≡ 8192 → t ≡ powers_table n → Powers t
table_powers n t whole is = subst Powers (sym is) (powers_of n whole)

-- the entries of a lent table
module _ (t : List ℕ) (P : Powers t) where
  pub power_entry : (k : ℕ) → k < length t → get_or t k 0 ≡ g ^ (k * (8192 / length t)) % p
  unfolding powers_table
  power_entry k l =
      ap (λ (l : List ℕ). get_or l k 0) P.rule ∙ get_or_tab (length t) (λ k. g ^ (k * (8192 / length t)) % p) k 0 l

  pub power_below : (k : ℕ) → k < length t → get_or t k 0 < p
  power_below k l = subst (λ (x : ℕ). x < p) (sym (power_entry k l)) (mod-lt (g ^ (k * (8192 / length t))) above)

  -- cos from two entries: that at k, and that as far back from the whole turn
  pub cos_from : (k m u : ℕ) → k < length t → m < length t → k + m ≡ length t * u
      → (get_or t k 0 + get_or t m 0) * half % p ≡ cos_turn k (length t)
  unfolding cos_of
  cos_from k m u lk lm e =
      let turns : k * (8192 / length t) + m * (8192 / length t) ≡ 8192 * u =
      sym (add-mul k m (8192 / length t)) ∙ ap (λ (x : ℕ). x * (8192 / length t)) e
      ∙ regroup (length t) u (8192 / length t) ∙ ap (λ (x : ℕ). x * u) P.whole in
      ap₂ (λ (x y : ℕ). (x + y) * half % p) (power_entry k lk)
      (power_entry m lm ∙ sym (inverse_power (k * (8192 / length t)) (m * (8192 / length t)) u turns))
      ∙ reduced (g ^ (k * (8192 / length t)) % p) (g⁻¹ ^ (k * (8192 / length t)) % p) (g ^ (k * (8192 / length t))) (g⁻¹ ^ (k * (8192 / length t))) half
      (mod-mod (g ^ (k * (8192 / length t))) p) (mod-mod (g⁻¹ ^ (k * (8192 / length t))) p)
    where
      regroup : (n u s : ℕ) → n * u * s ≡ s * n * u
      regroup n u s = omega arith
