-- The operations of `residue_ops` as those of the ring of residues, at numbers whose residues are known; and the outputs of DCT-II as sums over
-- that ring, by the angles of their own length (of_dct2_at) or of one that it goes into (of_dct2_part). Assumes nothing.
use mathlib.Core.Path.{◌≡◌, sym, ◌∙◌, ap, ap₂}
use mathlib.Core.List.{List}
use Prim.Native.Nat.{ℕ, zero, suc, ◌+◌, ◌*◌, ◌%◌, ◌<◌}
use native.Mathlib.Nat as Nat
use native.Mathlib.Omega.{arith}
use lib.ListN.{length}
use Rattle.ring.proofs.Ring as Ring
use Rattle.ring.proofs.Parity.{Parity, even, odd, parity}
use Rattle.ring.proofs.Sign.{sign, sign_even, sign_odd}
use Rattle.ring.proofs.Sum as Sum
use Rattle.ring.proofs.Turn as Turn
use Rattle.ring.proofs.Modular.{Residue, of, mod_eq, of_mod, of_add, of_mul}
use Rattle.sums.specs.Residue.{p, minus_one, Residues}
use Rattle.sums.specs.Transform.{entry, dct2_sum}
use Rattle.sums.proofs.Constants.{above, Zp, of_minus}
use Rattle.sums.proofs.Lengths.{Length, turn_at, part_length, cs_part}
use Rattle.sums.proofs.Outputs.{residues}
use Rattle.sums.proofs.Inverse.{of_dct2}
use Rattle.algorithms.specs.Lists.{turned, turned_by}
use Rattle.algorithms.specs.Residues.{residue_ops}
use Rattle.algorithms.specs.Split.{along, across}

-- two reduced numbers with one residue are equal
pub reduced_only : (a b : ℕ) → a % p ≡ a → b % p ≡ b → of p a ≡ of p b → a ≡ b
reduced_only a b ra rb e = sym ra ∙ mod_eq p a b e ∙ rb

-- and one with the residue of an entry is that entry
pub is_entry : (xs : List ℕ) → Residues xs → (i v : ℕ) → i < length xs → v % p ≡ v → of p v ≡ residues xs i → v ≡ entry xs i
is_entry xs below i v l reduced is = reduced_only v (entry xs i) reduced (Nat.mod-eq_of_lt (below.below i l)) is

-- twice a number
pub of_double : (a : ℕ) → of p (residue_ops.double a) ≡ Zp.add (of p a) (of p a)
of_double a = let twice : 2 * a ≡ a + a = omega arith in of_mod p (2 * a) ∙ ap (of p) twice ∙ of_add p above a a

module _ (a b : ℕ) {u v : Residue p} (a-is : of p a ≡ u) (b-is : of p b ≡ v) where
  pub of_sum : of p (residue_ops.add a b) ≡ Zp.add u v
  of_sum = of_mod p (a + b) ∙ of_add p above a b ∙ ap₂ Zp.add a-is b-is

  pub of_difference : of p (residue_ops.sub a b) ≡ Zp.add u (Zp.neg v)
  of_difference = of_mod p (a + minus_one * b) ∙ of_add p above a (minus_one * b) ∙ ap₂ Zp.add a-is (of_minus b ∙ ap Zp.neg b-is)

  pub of_product : of p (residue_ops.mul a b) ≡ Zp.mul u v
  of_product = of_mod p (a * b) ∙ of_mul p above a b ∙ ap₂ Zp.mul a-is b-is

pub of_negative : (a : ℕ) {u : Residue p} → of p a ≡ u → of p (residue_ops.neg a) ≡ Zp.neg u
of_negative a is = of_mod p (minus_one * a) ∙ of_minus a ∙ ap Zp.neg is

pub of_turned : (m a : ℕ) {u : Residue p} → of p a ≡ u → of p (turned residue_ops m a) ≡ Zp.mul (sign Zp m) u
of_turned m a {u} is = by (parity m)
  where
    by : Parity m → of p (turned residue_ops m a) ≡ Zp.mul (sign Zp m) u
    by (even t e) =
        let remainder : m % 2 ≡ 0 = omega arith in
        ap (λ (r : ℕ). of p (turned_by residue_ops r a)) remainder ∙ is
        ∙ sym (ap (λ (s : Residue p). Zp.mul s u) (ap (sign Zp) e ∙ sign_even Zp t) ∙ Zp.one_mul u)
    by (odd t e) =
        let remainder : m % 2 ≡ 1 = omega arith in
        ap (λ (r : ℕ). of p (turned_by residue_ops r a)) remainder ∙ of_negative a is
        ∙ sym (ap (λ (s : Residue p). Zp.mul s u) (ap (sign Zp) e ∙ sign_odd Zp t)
        ∙ Ring.neg_mul Zp Zp.one u ∙ ap Zp.neg (Zp.one_mul u))

-- the rotation of a pair
module _ (a b cos sin : ℕ) {u v c s : Residue p} (a-is : of p a ≡ u) (b-is : of p b ≡ v) (cos-is : of p cos ≡ c) (sin-is : of p sin ≡ s) where
  pub of_along : of p (along residue_ops a b cos sin) ≡ Zp.add (Zp.mul u c) (Zp.mul v s)
  of_along = of_sum (residue_ops.mul a cos) (residue_ops.mul b sin) (of_product a cos a-is cos-is) (of_product b sin b-is sin-is)

  pub of_across : of p (across residue_ops a b cos sin) ≡ Zp.add (Zp.mul v c) (Zp.neg (Zp.mul u s))
  of_across = of_difference (residue_ops.mul b cos) (residue_ops.mul a sin) (of_product b cos b-is cos-is) (of_product a sin a-is sin-is)

-- the outputs of DCT-II, at any length
pub of_dct2_at : (n : ℕ) (L : Length n) (x : List ℕ) → length x ≡ n → (k : ℕ) → k < n
    → of p (entry (dct2_sum x) k) ≡ Sum.sum Zp n (λ i. Zp.mul (residues x i) (Turn.cs Zp n (turn_at n L) (k * (2 * i + 1))))
of_dct2_at zero L x N k l = absurd (Nat.not-suc-le-zero l)
of_dct2_at (suc m) L x N k l = of_dct2 m L x N k l

pub of_dct2_part : (u n N : ℕ) → u * n ≡ N → (L : Length N) (x : List ℕ) → length x ≡ n → (k : ℕ) → k < n
    → of p (entry (dct2_sum x) k) ≡ Sum.sum Zp n (λ i. Zp.mul (residues x i) (Turn.cs Zp N (turn_at N L) (u * (k * (2 * i + 1)))))
of_dct2_part u n N parts L x e k l =
    of_dct2_at n (part_length u n N parts L) x e k l
    ∙ Sum.sum_ext Zp n _ _ (λ i b. ap (Zp.mul (residues x i)) (cs_part u n N parts L (k * (2 * i + 1))))
