-- Type 4 over any commutative ring with a turn: DCT-IV (fourth) and DST-IV (fourth_sine) of m entries, n being 2m; and both by two DCT-III of q entries,
-- where m is 2q and q is suc r. The entries of a DCT-IV are the odd entries of a DCT-III of 4q, so its outputs are two of the four kinds that one has
-- (fourth_first, fourth_mirrored); DST-IV has them of the entries read backwards (sine_first, sine_mirrored). Assumes nothing.
use mathlib.Core.Path.{◌≡◌, sym, ◌∙◌, ap, ap₂}
use mathlib.Core.List.{[], ◌∷◌}
use Prim.Native.Nat.{ℕ, suc, ◌+◌, ◌*◌, ◌/◌, ◌<◌}
use native.Mathlib.Omega.{arith}
use Rattle.ring.proofs.Ring.{Ring}
use Rattle.ring.proofs.Solve.{ring_from, var, :1, ◌:+◌, ◌:*◌, :-◌, given}
use Rattle.ring.proofs.Sum.{sum, sum_ext}
use Rattle.ring.proofs.Sign.{sign, sign_square, sign_opposite}
use Rattle.ring.proofs.Turn.{Turn, cs, sn}
use Rattle.ring.proofs.Third.{third}
use Rattle.ring.proofs.OddEntries.{odds}
use Rattle.ring.proofs.SplitThree.{Neighbours, odds_lower, odds_upper}
use Rattle.ring.proofs.Sines.{fourth_sines}

-- X_k, where v is the cosine or the sine
abbrev pub fourth_by : {C : Type 0} (R : Ring C) → (ℕ → C) → ℕ → (ℕ → C) → ℕ → C
fourth_by R v m x k = sum R m (λ i. R.mul (x i) (v ((2 * i + 1) * (2 * k + 1))))

module _ {C : Type 0} (R : Ring C) (n : ℕ) (W : Turn R n) where
  abbrev pub fourth : ℕ → (ℕ → C) → ℕ → C
  fourth = fourth_by R (cs R n W)

  abbrev pub fourth_sine : ℕ → (ℕ → C) → ℕ → C
  fourth_sine = fourth_by R (sn R n W)

-- u holds the sums of neighbours in x, v their differences from the last to the first; the first and the last entry, which are left alone, are doubled
pub record Paired {C : Type 0} (R : Ring C) (r : ℕ) (x u v : ℕ → C) : Type 0 where
  pub u_first : u 0 ≡ R.add (x 0) (x 0)
  pub u_rest : (i : ℕ) → i < r → u (suc i) ≡ R.add (x (2 * i + 1)) (x (2 * i + 2))
  pub v_first : v 0 ≡ R.add (x (2 * r + 1)) (x (2 * r + 1))
  pub v_rest : (m i : ℕ) → m + suc i ≡ r → v (suc m) ≡ R.add (x (2 * i + 1)) (R.neg (x (2 * i + 2)))

module _ {C : Type 0} (R : Ring C) (r : ℕ) (W : Turn R (4 * suc r)) (x u v : ℕ → C) (P : Paired R r x u v) where
  open R use {add as ◌⊕◌, mul as ◌⊗◌, neg as ⊖◌}

  infixl 65 ◌⊕◌
  infixl 70 ◌⊗◌
  infixl 75 ⊖◌
  abbrev q : ℕ
  q = suc r

  abbrev n : ℕ
  n = 4 * suc r

  -- the two of q entries, and the cosine and the sine that they are rotated by
  abbrev along : ℕ → C
  along = third R (4 * suc r) W 4 (suc r) u

  abbrev across : ℕ → C
  across = third R (4 * suc r) W 4 (suc r) v

  abbrev c : ℕ → C
  c k = cs R (4 * suc r) W (2 * k + 1)

  abbrev s : ℕ → C
  s k = sn R (4 * suc r) W (2 * k + 1)

  -- the list whose odd entries these are: x_i at 2i + 1
  abbrev spaced : ℕ → C
  spaced j = x (j / 2)

  neighbours : Neighbours R r spaced u v
  neighbours =
      record {
        u_first = P.u_first;
        u_rest = λ i l. P.u_rest i l ∙ pair i (λ a b. a ⊕ b);
        v_first = P.v_first ∙ (let last : 2 * r + 1 ≡ (4 * r + 3) / 2 = omega arith in ap (λ (j : ℕ). x j ⊕ x j) last);
        v_rest = λ m i e. P.v_rest m i e ∙ pair i (λ a b. a ⊕ ⊖ b);
      }
    where
      pair : (i : ℕ) (f : C → C → C) → f (x (2 * i + 1)) (x (2 * i + 2)) ≡ f (spaced (4 * i + 3)) (spaced (4 * i + 5))
      pair i f =
          let before : 2 * i + 1 ≡ (4 * i + 3) / 2 = omega arith in
          let after : 2 * i + 2 ≡ (4 * i + 5) / 2 = omega arith in
          ap₂ (λ (j k : ℕ). f (x j) (x k)) before after

  as_odds : (k : ℕ) → fourth R n W (2 * q) x k ≡ odds R r W spaced (2 * k + 1)
  as_odds k =
      sum_ext R (2 * q) (λ i. x i ⊗ cs R n W ((2 * i + 1) * (2 * k + 1))) (λ i. spaced (2 * i + 1) ⊗ cs R n W ((2 * i + 1) * (2 * k + 1)))
      (λ i b. let place : i ≡ (2 * i + 1) / 2 = omega arith in ap (λ (j : ℕ). x j ⊗ cs R n W ((2 * i + 1) * (2 * k + 1))) place)

  -- the outputs at k and at l = 2q − 1 − k
  pub fourth_first : (k : ℕ) → fourth R n W (2 * q) x k ≡ along k ⊗ c k ⊕ sign R k ⊗ across k ⊗ s k
  fourth_first k = as_odds k ∙ odds_lower R r W spaced u v neighbours k

  pub fourth_mirrored : (k l : ℕ) → k + suc l ≡ 2 * q → fourth R n W (2 * q) x l ≡ along k ⊗ s k ⊕ ⊖ (sign R k ⊗ across k ⊗ c k)
  fourth_mirrored k l e = as_odds l ∙ odds_upper R r W spaced u v neighbours k l e

  -- z is x read backwards
  module _ (z : ℕ → C) (is : (i j : ℕ) → i + suc j ≡ 2 * suc r → x i ≡ z j) where
    by_fourth : (k : ℕ) → fourth_sine R n W (2 * q) z k ≡ sign R k ⊗ fourth R n W (2 * q) x k
    by_fourth k = let whole : 2 * (2 * q) ≡ n = omega arith in sym (fourth_sines R n W (2 * q) whole z x is k)

    pub sine_first : (k : ℕ) → fourth_sine R n W (2 * q) z k ≡ sign R k ⊗ along k ⊗ c k ⊕ across k ⊗ s k
    sine_first k =
        by_fourth k ∙ ap (λ (y : C). sign R k ⊗ y) (fourth_first k)
        ∙ ring_from R (sign R k ∷ along k ∷ across k ∷ c k ∷ s k ∷ []) (given (var 2 :* var 4) (var 0 :* var 0) :1 (sign_square R k) ∷ [])
        (var 0 :* (var 1 :* var 3 :+ var 0 :* var 2 :* var 4))
        (var 0 :* var 1 :* var 3 :+ var 2 :* var 4)
        tt

    pub sine_mirrored : (k l : ℕ) → k + suc l ≡ 2 * q → fourth_sine R n W (2 * q) z l ≡ across k ⊗ c k ⊕ ⊖ (sign R k ⊗ along k ⊗ s k)
    sine_mirrored k l e =
        by_fourth l ∙ ap₂ ◌⊗◌ (sign_opposite R k l r (omega arith)) (fourth_mirrored k l e)
        ∙ ring_from R (sign R k ∷ along k ∷ across k ∷ c k ∷ s k ∷ []) (given (var 2 :* var 3) (var 0 :* var 0) :1 (sign_square R k) ∷ [])
        (:- var 0 :* (var 1 :* var 4 :+ :- (var 0 :* var 2 :* var 3)))
        (var 2 :* var 3 :+ :- (var 0 :* var 1 :* var 4))
        tt
