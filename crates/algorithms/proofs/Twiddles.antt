-- The twiddles of split radix as the cosines and the sines of the length 4q, over the ring of residues. Assumes nothing.
use mathlib.Core.Path.{◌≡◌, ◌∙◌, ap}
use Prim.Native.Nat.{ℕ, ◌+◌, ◌*◌}
use native.Mathlib.Omega.{arith}
use Rattle.ring.proofs.Turn as Turn
use Rattle.ring.proofs.Modular.{of}
use Rattle.sums.specs.Residue.{p}
use Rattle.sums.proofs.Constants.{Zp}
use Rattle.sums.proofs.Lengths.{Length, turn_at, cos_at, sin_at}
use Rattle.algorithms.specs.Residues.{residue_ops, residue_twiddles}
use Rattle.algorithms.specs.Split.{twiddle_cos, twiddle_sin}

module _ (q : ℕ) (L : Length (4 * q)) (i : ℕ) where
  turn_is : 16 * q ≡ 4 * (4 * q)
  turn_is = omega arith

  pub of_twiddle_cos : of p (twiddle_cos residue_ops residue_twiddles q i) ≡ Turn.cs Zp (4 * q) (turn_at (4 * q) L) (2 * i + 1)
  of_twiddle_cos = ap (λ (m : ℕ). of p (residue_twiddles.cos (2 * i + 1) m)) turn_is ∙ cos_at (4 * q) L (2 * i + 1)

  pub of_twiddle_sin : of p (twiddle_sin residue_ops residue_twiddles q i) ≡ Turn.sn Zp (4 * q) (turn_at (4 * q) L) (2 * i + 1)
  of_twiddle_sin = ap (λ (m : ℕ). of p (residue_twiddles.sin (2 * i + 1) m)) turn_is ∙ sin_at (4 * q) L (2 * i + 1)
