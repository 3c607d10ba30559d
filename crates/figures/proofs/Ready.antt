-- What a transform asks for, at the table of all 8,192 powers. Assumes nothing.
use mathlib.Core.Path.{◌≡◌, refl, sym, ◌∙◌, ap, subst}
use mathlib.Core.List.{List}
use Prim.Native.Nat.{ℕ, ◌*◌}
use lib.ListN.{length}
use Rattle.naive_sums.specs.Ready.{Tabled}
use Rattle.sums.proofs.Outputs.{dct2_residues, dct4_residues}
use Rattle.sums.proofs.Powers.{powers_length, table_powers}
use Rattle.sums.specs.Residue.{Residues, powers_table}
use Rattle.sums.specs.Transform.{dct2_sum, dct4_sum}

pub ready : (parts unit : ℕ) (table x out : List ℕ) → table ≡ powers_table 8192 → Residues x → length out ≡ length x → unit * (parts * length x) ≡ 8192
    → Tabled parts unit table x out
ready parts unit table x out is residues same whole =
    record {
      powers = table_powers 8192 table refl is;
      residues = residues;
      same = same;
      whole = whole ∙ sym (ap length is ∙ powers_length 8192);
    }

pub residues_dct2 : (x out : List ℕ) → out ≡ dct2_sum x → Residues out
residues_dct2 x out is = subst Residues (sym is) (dct2_residues x)

pub residues_dct4 : (x out : List ℕ) → out ≡ dct4_sum x → Residues out
residues_dct4 x out is = subst Residues (sym is) (dct4_residues x)
