-- The outputs of DCT-III as sums over the ring of residues, by the angles of a length that theirs goes into (of_dct3_part), and the last sine of DST-III.
-- Assumes nothing.
use mathlib.Core.Path.{◌≡◌, sym, ◌∙◌, ap, ap₂}
use mathlib.Core.List.{List}
use Prim.Native.Nat.{ℕ, zero, suc, ◌+◌, ◌*◌, ◌%◌, ◌<◌}
use native.Mathlib.Nat as Nat
use lib.ListN.{length}
use Rattle.ring.proofs.Sum as Sum
use Rattle.ring.proofs.Third.{third, third_first}
use Rattle.ring.proofs.Modular.{Residue, of, mod_eq}
use Rattle.sums.specs.Residue.{p}
use Rattle.sums.specs.Angle.{sin_turn}
use Rattle.sums.specs.Transform.{dct3_sum}
use Rattle.sums.proofs.Constants.{Zp}
use Rattle.sums.proofs.Inverse.{of_dct3}
use Rattle.sums.proofs.Lengths.{Length, turn_at, half_at, turn_whole, part_length, cs_part}
use Rattle.sums.proofs.Outputs.{residues}
use Rattle.sums.proofs.Turns.{sin_units_is}

-- a reduced number is an output where its residue is that of the sum
pub is_output : (v sum : ℕ) → v % p ≡ v → of p v ≡ of p sum → v ≡ sum % p
is_output v sum reduced same = sym reduced ∙ mod_eq p v sum same

-- u lengths m are the length n
pub of_dct3_part : (u m n : ℕ) → u * m ≡ n → (L : Length n) (x : List ℕ) → length x ≡ m → (k : ℕ) → k < m
    → residues (dct3_sum x) k ≡ third Zp n (turn_at n L) u m (residues x) k
of_dct3_part u zero n parts L x e k l = absurd (Nat.not-suc-le-zero l)
of_dct3_part u (suc m) n parts L x e k l =
    of_dct3 m (part_length u (suc m) n parts L) x e k l
    ∙ ap₂ (λ (h rest : Residue p). Zp.add (Zp.mul (residues x 0) h) rest) (half_at (suc m) (part_length u (suc m) n parts L) ∙ sym (half_at n L))
    (Sum.sum_ext Zp m _ _ (λ i b. ap (Zp.mul (residues x (suc i))) (cs_part u (suc m) n parts L (suc i * (2 * k + 1)))))
    ∙ sym (third_first Zp n (turn_at n L) u m (residues x) k)

-- a quarter of a turn is n units of the length n
pub last_sine : (n : ℕ) → Length n → (k : ℕ) → sin_turn (2 * k + 1) 4 ≡ sin_turn (n * (2 * k + 1)) (4 * n)
last_sine n L k =
    sin_units_is (4 * n) (turn_whole n L) n 4 (Nat.mul_comm n 4) (2 * k + 1) ∙ ap (λ (a : ℕ). sin_turn a (4 * n)) (Nat.mul_comm (2 * k + 1) n)
