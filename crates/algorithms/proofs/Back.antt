-- DST-III of DST-II is N/2 times the input, at every allowed length: by the cosines it is DCT-III of DCT-II, and N/2 times the entries negated by turns,
-- negated by turns again, is N/2 times the entries. Assumes nothing.
use mathlib.Core.Path.{◌≡◌, refl, sym, ◌∙◌, ap, ap₂, subst}
use mathlib.Core.List.{List, [], ◌∷◌}
use Prim.Native.Nat.{ℕ, ◌*◌, ◌^◌, ◌%◌, ◌≤◌}
use native.Mathlib.Nat as Nat
use native.Mathlib.Omega.{arith}
use lib.ListN.{length}
use Rattle.ring.proofs.Sign.{sign, sign_square}
use Rattle.ring.proofs.Solve.{ring_from, var, :1, ◌:*◌, given}
use Rattle.ring.proofs.Table.{length_tab, get_or_tab, is_tab}
use Rattle.ring.proofs.Modular.{of, of_mod, of_mul}
use Rattle.sums.specs.Residue.{p, half}
use Rattle.sums.specs.Transform.{entry, dct2_sum, dst2_sum, dct3_sum, dst3_sum, times_half_length}
use Rattle.sums.proofs.Constants.{above, Zp}
use Rattle.sums.proofs.Inverse.{dct3_of_dct2}
use Rattle.sums.proofs.Lengths.{Length, power_length}
use Rattle.sums.proofs.Outputs.{length_dst2}
use Rattle.algorithms.specs.Lists.{reversed, turned, alternated}
use Rattle.algorithms.specs.Residues.{residue_ops}
use Rattle.algorithms.proofs.Carried.{of_turned}
use Rattle.algorithms.proofs.Lists.{length_alternated, get_or_alternated, reversed_twice}
use Rattle.algorithms.proofs.Sines.{turned_reduced, dst2_by_dct2, dst3_by_dct3}
use Rattle.algorithms.proofs.Thirds.{is_output}

-- a multiple of a number, both negated by turns
turned_multiple : (k a v : ℕ) → turned residue_ops k (a * turned residue_ops k v % p) ≡ a * v % p
turned_multiple k a v =
    is_output (turned residue_ops k (a * turned residue_ops k v % p)) (a * v) (turned_reduced k (a * turned residue_ops k v % p) (Nat.mod-mod _ p))
    (of_turned k (a * turned residue_ops k v % p)
    (of_mod p (a * turned residue_ops k v) ∙ of_mul p above a (turned residue_ops k v) ∙ ap (Zp.mul (of p a)) (of_turned k v refl))
    ∙ ring_from Zp (sign Zp k ∷ of p a ∷ of p v ∷ []) (given (var 1 :* var 2) (var 0 :* var 0) :1 (sign_square Zp k) ∷ [])
    (var 0 :* (var 1 :* (var 0 :* var 2)))
    (var 1 :* var 2)
    tt
    ∙ sym (of_mul p above a v))

alternated_multiple : (x : List ℕ) → alternated residue_ops (times_half_length (alternated residue_ops x)) ≡ times_half_length x
unfolding times_half_length
alternated_multiple x =
    is_tab 0 (alternated residue_ops scaled) (length x) (length_alternated residue_ops scaled ∙ same)
    (λ k l.
    get_or_alternated residue_ops scaled k 0 (omega (arith, same))
    ∙ ap (turned residue_ops k)
    (get_or_tab (length turns) (λ l. length turns * half * entry turns l % p) k 0 (omega (arith, whole))
    ∙ ap₂ (λ (n v : ℕ). n * half * v % p) whole (get_or_alternated residue_ops x k 0 l))
    ∙ turned_multiple k (length x * half) (entry x k))
  where
    turns : List ℕ
    turns = alternated residue_ops x

    scaled : List ℕ
    scaled = times_half_length turns

    whole : length turns ≡ length x
    whole = length_alternated residue_ops x

    same : length scaled ≡ length x
    same = length_tab (length turns) _ ∙ whole

pub dst3_of_dst2 : (e : ℕ) → e ≤ 10 → (x : List ℕ) → length x ≡ 2 ^ e → dst3_sum (dst2_sum x) ≡ times_half_length x
dst3_of_dst2 e small x N =
    sym (dst3_by_dct3 (dst2_sum x) (subst Length (sym (length_dst2 x)) L))
    ∙ ap (λ (y : List ℕ). alternated residue_ops (dct3_sum (reversed residue_ops y))) (sym (dst2_by_dct2 x L))
    ∙ ap (λ (y : List ℕ). alternated residue_ops (dct3_sum y)) (reversed_twice residue_ops (dct2_sum turns))
    ∙ ap (alternated residue_ops) (dct3_of_dct2 e small turns (length_alternated residue_ops x ∙ N)) ∙ alternated_multiple x
  where
    turns : List ℕ
    turns = alternated residue_ops x

    L : Length (length x)
    L = subst Length (sym N) (power_length e (omega arith))
