-- The naive sums over residues are the defining sums: a sum that is reduced after each addition, of terms that are reduced, is the sum reduced once;
-- an angle is taken modulo a whole turn. Assumes nothing.
use mathlib.Core.Path.{◌≡◌, refl, sym, ◌∙◌, ap, ap₂}
use mathlib.Core.Bool.{Bool, true, false, cond}
use mathlib.Core.List.{List}
use Prim.Native.Nat.{ℕ, zero, suc, ◌+◌, ◌*◌, ◌-◌, ◌%◌, ◌<◌}
use native.Mathlib.Nat as Nat
use native.Mathlib.Omega.{arith}
use lib.Dec.{eqb, eqb→eq}
use lib.ListN.{length}
use Rattle.ring.specs.Finite.{sum_of}
use Rattle.ring.proofs.Below.{eq→eqb, true_is, false_is}
use Rattle.ring.proofs.Factor.{factor_positive}
use Rattle.ring.proofs.Modular.{mod_mul}
use Rattle.ring.proofs.Table.{tab_ext}
use Rattle.ring.proofs.Terms.{terms_none, terms_suc, terms_ext}
use Rattle.sums.specs.Residue.{p, half}
use Rattle.sums.specs.Angle.{cos_turn, sin_turn}
use Rattle.sums.specs.Transform.{sum, entry, dct2_sum, dst2_sum, dct3_sum, dst3_sum}
use Rattle.sums.proofs.Lengths.{Length, turn_whole}
use Rattle.sums.proofs.Turns.{cos_remainder, sin_remainder}
use Rattle.algorithms.specs.Residues.{residue_ops, residue_twiddles}
use Rattle.algorithms.specs.Naive.{naive_dct2, naive_dst2, naive_dct3, naive_dst3, last_halved, cos_of_units, sin_of_units}
use Rattle.algorithms.proofs.Thirds.{last_sine}

-- the sum of the terms f, from the start h
reduced_once : (h n : ℕ) (f term : ℕ → ℕ) → ((i : ℕ) → i < n → term i ≡ f i % p)
    → sum_of residue_ops.add (h % p) n term ≡ (h + sum n f) % p
reduced_once h zero f term is =
    terms_none residue_ops.add (h % p) term ∙ ap (λ (a : ℕ). a % p) (sym (ap (λ (a : ℕ). h + a) (terms_none ◌+◌ 0 f) ∙ Nat.add-zero h))
reduced_once h (suc n) f term is =
    terms_suc residue_ops.add (h % p) n term
    ∙ ap₂ (λ (a b : ℕ). (a + b) % p) (reduced_once h n f term (λ i l. is i (omega arith))) (is n (omega arith))
    ∙ sym (Nat.add-mod (h + sum n f) (f n) p)
    ∙ ap (λ (a : ℕ). a % p) (Nat.add_assoc h (sum n f) (f n) ∙ ap (λ (a : ℕ). h + a) (sym (terms_suc ◌+◌ 0 n f)))

-- from nothing
pub reduced_sum : (n : ℕ) (f term : ℕ → ℕ) → ((i : ℕ) → i < n → term i ≡ f i % p) → sum_of residue_ops.add 0 n term ≡ sum n f % p
reduced_sum n f term is = reduced_once 0 n f term is ∙ ap (λ (a : ℕ). a % p) (Nat.zero-add (sum n f))

module _ (x : List ℕ) (L : Length (length x)) where
  abbrev n : ℕ
  n = length x

  abbrev cos_units : ℕ → ℕ
  cos_units a = cos_of_units residue_ops residue_twiddles (length x) a

  abbrev sin_units : ℕ → ℕ
  sin_units a = sin_of_units residue_ops residue_twiddles (length x) a

  -- a term with its angle modulo a whole turn
  cos_term : (y a : ℕ) → residue_ops.mul y (cos_units a) ≡ y * cos_turn a (4 * n) % p
  cos_term y a = ap (λ (c : ℕ). y * c % p) (cos_remainder (4 * n) (turn_whole n L) a)

  sin_term : (y a : ℕ) → residue_ops.mul y (sin_units a) ≡ y * sin_turn a (4 * n) % p
  sin_term y a = ap (λ (c : ℕ). y * c % p) (sin_remainder (4 * n) (turn_whole n L) a)

  dct2_is : naive_dct2 residue_ops residue_twiddles x ≡ dct2_sum x
  unfolding naive_dct2 dct2_sum
  dct2_is = tab_ext n (λ k b. reduced_sum n (λ i. entry x i * cos_turn (k * (2 * i + 1)) (4 * n)) _ (λ i l. cos_term (entry x i) (k * (2 * i + 1))))

  dst2_is : naive_dst2 residue_ops residue_twiddles x ≡ dst2_sum x
  unfolding naive_dst2 dst2_sum
  dst2_is =
      tab_ext n (λ k b. reduced_sum n (λ i. entry x i * sin_turn ((k + 1) * (2 * i + 1)) (4 * n)) _ (λ i l. sin_term (entry x i) ((k + 1) * (2 * i + 1))))

  dct3_is : naive_dct3 residue_ops residue_twiddles x ≡ dct3_sum x
  unfolding naive_dct3 dct3_sum
  dct3_is =
      tab_ext n
      (λ k b.
      reduced_once (entry x 0 * half) (n - 1) (λ i. entry x (suc i) * cos_turn (suc i * (2 * k + 1)) (4 * n)) _
      (λ i l. cos_term (entry x (suc i)) (suc i * (2 * k + 1))))

  -- the last entry is m
  abbrev m : ℕ
  m = length x - 1

  last : suc m ≡ n
  last = let above : 0 < n = factor_positive L.step n 2048 L.whole (omega arith) in omega arith

  -- what half of the last entry adds, before it is reduced
  abbrev halved_at : ℕ → ℕ
  halved_at i = cond (eqb (suc i) (length x)) (entry x i * half) (entry x i)

  halved_term : (i s : ℕ) → last_halved residue_ops residue_twiddles x i * s % p ≡ halved_at i * s % p
  halved_term i s = by (eqb (suc i) n)
    where
      by : (b : Bool) → cond b (entry x i * half % p) (entry x i) * s % p ≡ cond b (entry x i * half) (entry x i) * s % p
      by true = mod_mul (entry x i * half) s p
      by false = refl

  dst3_terms : (k : ℕ)
      → sum n (λ i. halved_at i * sin_turn ((i + 1) * (2 * k + 1)) (4 * n))
      ≡ sum m (λ i. entry x i * sin_turn ((i + 1) * (2 * k + 1)) (4 * n)) + entry x m * half * sin_turn (2 * k + 1) 4
  dst3_terms k =
      let more : m + 1 ≡ n = omega (arith, last) in
      ap (λ (l : ℕ). sum l term) (sym last) ∙ terms_suc ◌+◌ 0 m term
      ∙ ap₂ ◌+◌ (terms_ext ◌+◌ 0 m (λ i l. ap (λ (v : ℕ). v * sin_turn ((i + 1) * (2 * k + 1)) (4 * n)) (before i l)))
      (ap₂ ◌*◌ at_last (ap (λ (a : ℕ). sin_turn (a * (2 * k + 1)) (4 * n)) more ∙ sym (last_sine n L k)))
    where
      term : ℕ → ℕ
      term i = halved_at i * sin_turn ((i + 1) * (2 * k + 1)) (4 * n)

      before : (i : ℕ) → i < m → halved_at i ≡ entry x i
      before i l =
          ap (λ (b : Bool). cond b (entry x i * half) (entry x i))
          (sym (false_is (eqb (suc i) n) (λ t. let here : suc i ≡ n = eqb→eq (suc i) n t in Nat.lt_irrefl 0 (omega (arith, last)))))

      at_last : halved_at m ≡ entry x m * half
      at_last = ap (λ (b : Bool). cond b (entry x m * half) (entry x m)) (sym (true_is (eqb (suc m) n) (eq→eqb (suc m) n last)))

  dst3_is : naive_dst3 residue_ops residue_twiddles x ≡ dst3_sum x
  unfolding naive_dst3 dst3_sum
  dst3_is =
      tab_ext n
      (λ k b.
      reduced_sum n (λ i. halved_at i * sin_turn ((i + 1) * (2 * k + 1)) (4 * n)) _
      (λ i l. sin_term (last_halved residue_ops residue_twiddles x i) ((i + 1) * (2 * k + 1)) ∙ halved_term i (sin_turn ((i + 1) * (2 * k + 1)) (4 * n)))
      ∙ ap (λ (v : ℕ). v % p) (dst3_terms k))

pub naive_dct2_is : (x : List ℕ) → Length (length x) → naive_dct2 residue_ops residue_twiddles x ≡ dct2_sum x
naive_dct2_is = dct2_is

pub naive_dst2_is : (x : List ℕ) → Length (length x) → naive_dst2 residue_ops residue_twiddles x ≡ dst2_sum x
naive_dst2_is = dst2_is

pub naive_dct3_is : (x : List ℕ) → Length (length x) → naive_dct3 residue_ops residue_twiddles x ≡ dct3_sum x
naive_dct3_is = dct3_is

pub naive_dst3_is : (x : List ℕ) → Length (length x) → naive_dst3 residue_ops residue_twiddles x ≡ dst3_sum x
naive_dst3_is = dst3_is
