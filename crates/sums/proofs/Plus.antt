-- Lists added and subtracted entry by entry, modulo p: document 01, "The tray", what adding and withdrawing do to the coefficients.
-- As residues: of_plus. Lengths: length_plus, length_minus. Entries below p: plus_residues, minus_residues.
-- Each undoes the other: minus_of_plus, plus_of_minus. By parts: plus_append, plus_take, plus_drop, quiet_plus. Assumes nothing.
use mathlib.Core.Path.{◌≡◌, sym, ◌∙◌, ap, ap₂}
use mathlib.Core.List.{List, [], ◌∷◌, ◌++◌}
use Prim.Native.Nat.{ℕ, ◌+◌, ◌*◌, ◌%◌, ◌<◌}
use native.Mathlib.Omega.{arith}
use lib.ListN.{length, take, drop, get_or-replicate, length-replicate, get_or-append}
use lib.Seq.{take_at, drop_at, get_or-take, get_or-drop}
use Rattle.ring.proofs.Solve.{ring, var, ◌:+◌, :-◌}
use Rattle.ring.proofs.Table.{length_tab, is_tab, tab_ext, tab_append}
use Rattle.ring.proofs.Modular.{of_add}
use Rattle.sums.specs.Residue.{p, minus_one, Residues}
use Rattle.sums.specs.Transform.{entry}
use Rattle.sums.specs.Curve.{quiet, plus, minus}
use Rattle.sums.proofs.Constants.{above, Zp, of_minus}
use Rattle.sums.proofs.Outputs.{entry_after, residues, of_output, outputs_residues, residues_only}

module _ (n : ℕ) (x y : List ℕ) where
  pub of_plus : (k : ℕ) → k < n → residues (plus n x y) k ≡ Zp.add (residues x k) (residues y k)
  unfolding plus
  of_plus k l = of_output n (λ k. entry x k + entry y k) k l ∙ of_add p above (entry x k) (entry y k)

  of_difference : (k : ℕ) → k < n → residues (minus n x y) k ≡ Zp.add (residues x k) (Zp.neg (residues y k))
  unfolding minus
  of_difference k l =
      of_output n (λ k. entry x k + minus_one * entry y k) k l ∙ of_add p above (entry x k) (minus_one * entry y k)
      ∙ ap (Zp.add (residues x k)) (of_minus (entry y k))

  pub length_plus : length (plus n x y) ≡ n
  unfolding plus
  length_plus = length_tab n _

  pub length_minus : length (minus n x y) ≡ n
  unfolding minus
  length_minus = length_tab n _

  pub plus_residues : Residues (plus n x y)
  unfolding plus
  plus_residues = outputs_residues n _

  pub minus_residues : Residues (minus n x y)
  unfolding minus
  minus_residues = outputs_residues n _

-- what is added and taken away again, or taken away and added again, leaves a list of residues as it was
module _ (n : ℕ) (x y : List ℕ) (whole : length x ≡ n) (r : Residues x) where
  pub minus_of_plus : minus n (plus n x y) y ≡ x
  minus_of_plus =
      residues_only n (minus n (plus n x y) y) x (length_minus n (plus n x y) y) whole (minus_residues n (plus n x y) y) r
      (λ k l.
      of_difference n (plus n x y) y k l ∙ ap (λ v. Zp.add v (Zp.neg (residues y k))) (of_plus n x y k l)
      ∙ ring Zp (residues x k ∷ residues y k ∷ []) (var 0 :+ var 1 :+ :- var 1) (var 0) tt)

  pub plus_of_minus : plus n (minus n x y) y ≡ x
  plus_of_minus =
      residues_only n (plus n (minus n x y) y) x (length_plus n (minus n x y) y) whole (plus_residues n (minus n x y) y) r
      (λ k l.
      of_plus n (minus n x y) y k l ∙ ap (λ v. Zp.add v (residues y k)) (of_difference n x y k l)
      ∙ ring Zp (residues x k ∷ residues y k ∷ []) (var 0 :+ :- var 1 :+ var 1) (var 0) tt)

-- sums of lists that are put together, and of their parts
module _ (m n : ℕ) where
  pub plus_append : (a b x y : List ℕ) → length a ≡ m → length b ≡ m → plus m a b ++ plus n x y ≡ plus (m + n) (a ++ x) (b ++ y)
  unfolding plus
  plus_append a b x y la lb =
      ap₂ ◌++◌
      (tab_ext m (λ k l. ap₂ (λ (u v : ℕ). (u + v) % p) (sym (get_or-append a x 0 k (omega arith))) (sym (get_or-append b y 0 k (omega arith)))))
      (tab_ext n (λ k l. ap₂ (λ (u v : ℕ). (u + v) % p) (sym (entry_after m a x la k)) (sym (entry_after m b y lb k))))
      ∙ sym (tab_append m n (λ k. (entry (a ++ x) k + entry (b ++ y) k) % p))

  module _ (x y : List ℕ) where
    parts : plus (m + n) x y ≡ plus m (take m x) (take m y) ++ plus n (drop m x) (drop m y)
    unfolding plus
    parts =
        tab_append m n (λ k. (entry x k + entry y k) % p)
        ∙ ap₂ ◌++◌ (tab_ext m (λ k l. ap₂ (λ (u v : ℕ). (u + v) % p) (sym (get_or-take m x k 0 l)) (sym (get_or-take m y k 0 l))))
        (tab_ext n (λ k l. ap₂ (λ (u v : ℕ). (u + v) % p) (sym (get_or-drop m x k 0)) (sym (get_or-drop m y k 0))))

    pub plus_take : take m (plus (m + n) x y) ≡ plus m (take m x) (take m y)
    plus_take = ap (take m) parts ∙ take_at (plus m (take m x) (take m y)) (plus n (drop m x) (drop m y)) m (length_plus m (take m x) (take m y))

    pub plus_drop : drop m (plus (m + n) x y) ≡ plus n (drop m x) (drop m y)
    plus_drop = ap (drop m) parts ∙ drop_at (plus m (take m x) (take m y)) (plus n (drop m x) (drop m y)) m (length_plus m (take m x) (take m y))

pub quiet_plus : (N : ℕ) → quiet N ≡ plus N (quiet N) (quiet N)
unfolding plus
quiet_plus N =
    is_tab 0 (quiet N) N (length-replicate N 0)
    (λ k l. get_or-replicate N k 0 0 l ∙ sym (ap₂ (λ (u v : ℕ). (u + v) % p) (get_or-replicate N k 0 0 l) (get_or-replicate N k 0 0 l)))
