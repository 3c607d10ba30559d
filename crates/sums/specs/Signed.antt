-- Document 01, "The tray": whole numbers as residues and back. Assumes nothing.
use Rattle.std.specs.Prelude.{ℕ, suc, ◌-◌, Bool, true, false, ℤ, pos, negsuc, leb}
use Rattle.sums.specs.Residue.{p}

-- a negative sample s stands for the residue s + p. `negsuc n` is −(n + 1)
abbrev pub residue_of : ℤ → ℕ
residue_of (pos n) = n
residue_of (negsuc n) = p - suc n

-- a residue read as it is, or less p. For r below p, `negsuc (p - suc r)` is r − p
abbrev pub signed_by : Bool → ℕ → ℤ
signed_by true r = pos r
signed_by false r = negsuc (p - suc r)

-- each residue r is read as r if r ≤ 499122176, else as r − p
abbrev pub signed_of : ℕ → ℤ
signed_of r = signed_by (leb r 499122176) r
