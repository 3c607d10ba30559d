-- The rule of the tables, by one test that is computed over all of a table: it has the entries that are computed level by level, where along a level
-- the powers of g and of 1/g advance by one product each. What is computed is the table of cosines (computed_is), so a list that passes the test
-- is that table (is_cosines). Assumes nothing.
use mathlib.Core.Path.{◌≡◌, refl, ap, ap₂, sym, ◌∙◌}
use mathlib.Core.Bool.{Bool, true, false, ◌&&◌}
use mathlib.Core.List.{List, [], ◌∷◌, ◌++◌}
use Prim.Native.Nat.{ℕ, zero, suc, ◌+◌, ◌*◌, ◌^◌, ◌%◌, ◌/◌}
use native.Mathlib.Nat as Nat
use native.Mathlib.Omega.{arith}
use lib.Dec.{T, eqb, eqb→eq}
use lib.Pow.{pow-add}
use Rattle.ring.specs.Finite.{tab}
use Rattle.ring.proofs.Below.{both_left, both_right}
use Rattle.ring.proofs.Modular.{mod_mul, mul_mod}
use Rattle.ring.proofs.Table.{tab_ext}
use Rattle.sums.specs.Residue.{p, half, g, g⁻¹}
use Rattle.sums.specs.Angle.{cos_of}
use Rattle.sums.specs.Cosines.{cosines_level, cosines_table}
use Rattle.sums.proofs.Constants.{g_is, g⁻¹_is, reduced}

-- n cosines, the first from the powers e and d, each next from their products with v and w
abbrev advance : ℕ → ℕ → ℕ → ℕ → ℕ → List ℕ
advance v w zero e d = []
advance v w (suc n) e d = (e + d) * half % p ∷ advance v w n (e * v % p) (d * w % p)

-- the M cosines at odd multiples of u/8192 of a turn, where a and b are g and 1/g
abbrev level_of : ℕ → ℕ → ℕ → ℕ → List ℕ
level_of a b M u = advance (a ^ (2 * u) % p) (b ^ (2 * u) % p) M (a ^ u % p) (b ^ u % p)

-- m levels. 350007156 and 358024708 are g and 1/g, as numerals, so that the list computes
abbrev computed : ℕ → List ℕ
computed zero = []
computed (suc m) = computed m ++ level_of 350007156 358024708 (2 ^ m) (8192 / (8 * 2 ^ m))

-- powers of one base, reduced: their product is the power at the sum
product : (a x y : ℕ) → a ^ x % p * (a ^ y % p) % p ≡ a ^ (x + y) % p
product a x y = mod_mul (a ^ x) (a ^ y % p) p ∙ mul_mod (a ^ x) (a ^ y) p ∙ ap (λ (z : ℕ). z % p) (sym (pow-add a x y))

-- the cosine from the two powers, reduced
cosine_from : (x : ℕ) → (g ^ x % p + g⁻¹ ^ x % p) * half % p ≡ cos_of x
unfolding cos_of
cosine_from x =
    reduced (g ^ x % p) (g⁻¹ ^ x % p) (g ^ x) (g⁻¹ ^ x) half (Nat.mod-mod (g ^ x) p) (Nat.mod-mod (g⁻¹ ^ x) p)

-- from the powers at x on, 2u further with each cosine
advance_is : (n u x : ℕ) → advance (g ^ (2 * u) % p) (g⁻¹ ^ (2 * u) % p) n (g ^ x % p) (g⁻¹ ^ x % p) ≡ tab n (λ i. cos_of (x + i * (2 * u)))
unfolding tab
advance_is zero u x = refl
advance_is (suc n) u x =
    ap₂ ◌∷◌ (cosine_from x ∙ ap cos_of (omega arith))
    (ap₂ (advance (g ^ (2 * u) % p) (g⁻¹ ^ (2 * u) % p) n) (product g x (2 * u)) (product g⁻¹ x (2 * u)) ∙ advance_is n u (x + 2 * u)
    ∙ tab_ext n (λ i below. ap cos_of (omega arith)))

level_is : (M : ℕ) → level_of g g⁻¹ M (8192 / (8 * M)) ≡ cosines_level M
unfolding cosines_level
level_is M = advance_is M (8192 / (8 * M)) (8192 / (8 * M)) ∙ tab_ext M (λ i below. ap cos_of (odd i (8192 / (8 * M))))
  where
    odd : (i u : ℕ) → u + i * (2 * u) ≡ (2 * i + 1) * u
    odd i u = omega arith

computed_is : (m : ℕ) → computed m ≡ cosines_table m
unfolding cosines_table
computed_is zero = refl
computed_is (suc m) =
    ap₂ ◌++◌ (computed_is m)
    (ap₂ (λ (a b : ℕ). level_of a b (2 ^ m) (8192 / (8 * 2 ^ m))) (sym g_is) (sym g⁻¹_is) ∙ level_is (2 ^ m))

-- the test: the two lists have the same entries
abbrev same : List ℕ → List ℕ → Bool
same [] [] = true
same [] (y ∷ ys) = false
same (x ∷ xs) [] = false
same (x ∷ xs) (y ∷ ys) = eqb x y && same xs ys

same_is : (xs ys : List ℕ) → T (same xs ys) → xs ≡ ys
same_is [] [] t = refl
same_is [] (y ∷ ys) t = absurd t
same_is (x ∷ xs) [] t = absurd t
same_is (x ∷ xs) (y ∷ ys) t =
    ap₂ ◌∷◌ (eqb→eq x y (both_left (eqb x y) (same xs ys) t)) (same_is xs ys (both_right (eqb x y) (same xs ys) t))

pub is_cosines : (m : ℕ) (xs : List ℕ) → T (same xs (computed m)) → xs ≡ cosines_table m
is_cosines m xs t = same_is xs (computed m) t ∙ computed_is m
