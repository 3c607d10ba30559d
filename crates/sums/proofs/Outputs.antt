-- Lists of outputs: their lengths, that their entries are residues, and how they are known by the residues of their entries (outputs_only, residues_only). Assumes nothing.
use mathlib.Core.Path.{◌≡◌, sym, ◌∙◌, ap, subst}
use mathlib.Core.List.{List, ◌++◌}
use Prim.Native.Nat.{ℕ, ◌+◌, ◌*◌, ◌%◌, ◌<◌}
use native.Mathlib.Nat as Nat
use native.Mathlib.Omega.{arith}
use lib.ListN.{length, get_or-append}
use lib.Seq.{ext_get_or, get_or-append-add}
use Rattle.ring.proofs.Modular.{Residue, of, of_mod, mod_eq}
use Rattle.ring.proofs.Table.{length_tab, get_or_tab, tab_ext}
use Rattle.sums.specs.Residue.{p, Residues}
use Rattle.sums.specs.Transform.{entry, outputs, dct2_sum, dst2_sum, dct3_sum, dst3_sum, dct4_sum, dst4_sum, mdct_sum, imdct_sum}
use Rattle.sums.proofs.Constants.{above}

-- the entries of a list as residues
abbrev pub residues : List ℕ → ℕ → Residue p
residues x i = of p (entry x i)

-- where one list follows another of n entries
pub entry_after : (n : ℕ) (x y : List ℕ) → length x ≡ n → (i : ℕ) → entry (x ++ y) (n + i) ≡ entry y i
entry_after n x y e i = ap (λ (m : ℕ). entry (x ++ y) (m + i)) (sym e) ∙ get_or-append-add x y i 0

pub residues_front : (n : ℕ) (x y : List ℕ) → length x ≡ n → (i : ℕ) → i < n → residues (x ++ y) i ≡ residues x i
residues_front n x y e i l = ap (of p) (get_or-append x y 0 i (omega arith))

pub residues_after : (n : ℕ) (x y : List ℕ) → length x ≡ n → (i : ℕ) → residues (x ++ y) (n + i) ≡ residues y i
residues_after n x y e i = ap (of p) (entry_after n x y e i)

-- an entry of a list of outputs, as a residue
pub of_output : (n : ℕ) (f : ℕ → ℕ) (k : ℕ) → k < n → of p (entry (outputs n f) k) ≡ of p (f k)
of_output n f k l = ap (of p) (get_or_tab n (λ i. f i % p) k 0 l) ∙ of_mod p (f k)

-- there are as many outputs as entries
pub length_dct2 : (x : List ℕ) → length (dct2_sum x) ≡ length x
unfolding dct2_sum
length_dct2 x = length_tab (length x) _

pub length_dst2 : (x : List ℕ) → length (dst2_sum x) ≡ length x
unfolding dst2_sum
length_dst2 x = length_tab (length x) _

pub length_dct3 : (x : List ℕ) → length (dct3_sum x) ≡ length x
unfolding dct3_sum
length_dct3 x = length_tab (length x) _

pub length_dst3 : (x : List ℕ) → length (dst3_sum x) ≡ length x
unfolding dst3_sum
length_dst3 x = length_tab (length x) _

pub length_dct4 : (x : List ℕ) → length (dct4_sum x) ≡ length x
unfolding dct4_sum
length_dct4 x = length_tab (length x) _

pub length_dst4 : (x : List ℕ) → length (dst4_sum x) ≡ length x
unfolding dst4_sum
length_dst4 x = length_tab (length x) _

-- an MDCT has N outputs, an IMDCT 2N
pub length_mdct : (N : ℕ) (w x : List ℕ) → length (mdct_sum N w x) ≡ N
unfolding mdct_sum
length_mdct N w x = length_tab N _

pub length_imdct : (N : ℕ) (w held X : List ℕ) → length (imdct_sum N w held X) ≡ 2 * N
unfolding imdct_sum
length_imdct N w held X = length_tab (2 * N) _

-- outputs are reduced
pub outputs_residues : (n : ℕ) (f : ℕ → ℕ) → Residues (outputs n f)
outputs_residues n f =
    record {
      below = λ k l.
          subst (λ (v : ℕ). v < p) (sym (get_or_tab n (λ i. f i % p) k 0 (subst (λ (m : ℕ). k < m) (length_tab n (λ i. f i % p)) l)))
          (Nat.mod-lt (f k) above);
    }

pub dct2_residues : (x : List ℕ) → Residues (dct2_sum x)
unfolding dct2_sum
dct2_residues x = outputs_residues (length x) _

pub dct3_residues : (x : List ℕ) → Residues (dct3_sum x)
unfolding dct3_sum
dct3_residues x = outputs_residues (length x) _

pub dst3_residues : (x : List ℕ) → Residues (dst3_sum x)
unfolding dst3_sum
dst3_residues x = outputs_residues (length x) _

pub dct4_residues : (x : List ℕ) → Residues (dct4_sum x)
unfolding dct4_sum
dct4_residues x = outputs_residues (length x) _

pub dst4_residues : (x : List ℕ) → Residues (dst4_sum x)
unfolding dst4_sum
dst4_residues x = outputs_residues (length x) _

pub mdct_residues : (N : ℕ) (w x : List ℕ) → Residues (mdct_sum N w x)
unfolding mdct_sum
mdct_residues N w x = outputs_residues N _

pub imdct_residues : (N : ℕ) (w held X : List ℕ) → Residues (imdct_sum N w held X)
unfolding imdct_sum
imdct_residues N w held X = outputs_residues (2 * N) _

-- a list of outputs is known by the residues of its entries
pub outputs_only : (z : List ℕ) (n : ℕ) (f h : ℕ → ℕ) → z ≡ outputs n f → ((k : ℕ) → k < n → of p (entry z k) ≡ of p (h k))
    → z ≡ outputs n h
outputs_only z n f h e same =
    e
    ∙ tab_ext n
    (λ k l. mod_eq p (f k) (h k) (sym (of_output n f k l) ∙ ap (λ (y : List ℕ). of p (entry y k)) (sym e) ∙ same k l))

-- so is a list of residues
pub residues_only : (n : ℕ) (y z : List ℕ) → length y ≡ n → length z ≡ n → Residues y → Residues z
    → ((k : ℕ) → k < n → residues y k ≡ residues z k) → y ≡ z
residues_only n y z ny nz ry rz same =
    ext_get_or 0 y z (ny ∙ sym nz)
    (λ k l.
    sym (Nat.mod-eq_of_lt (ry.below k l)) ∙ mod_eq p (entry y k) (entry z k) (same k (omega arith))
    ∙ Nat.mod-eq_of_lt (rz.below k (omega arith)))
