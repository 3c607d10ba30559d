-- Document 01, "The tray": what a tray gives is its shots added up. The overlapped IMDCTs of pooled blocks are the shots added up modulo p (curve_pooled),
-- and the reading is their sum as whole numbers (curve_exact), which 64 shots of 16-bit samples never take past half of p (tray_exact). Assumes nothing.
use mathlib.Core.Path.{◌≡◌, ◌∙◌, ap}
use mathlib.Core.List.{List, map}
use Prim.Native.Nat.{ℕ, ◌*◌, ◌<◌, ◌≤◌}
use native.Mathlib.Omega.{arith}
use lib.Dec.{T}
use lib.IntN.{ℤ, nat_abs}
use lib.ListN.{length, length-map}
use Rattle.ring.specs.Finite.{tab}
use Rattle.sums.specs.Signed.{residue_of, signed_of}
use Rattle.sums.specs.Size.{allowed_size}
use Rattle.sums.specs.Window.{accepted_window}
use Rattle.sums.specs.Shots.{Each, Samples}
use Rattle.sums.specs.Curve.{curve_of, pooled, pooled_blocks, residues_of, reading_of, whole_total}
use Rattle.sums.proofs.AnyOrder.{length_pooled, pooled_residues}
use Rattle.sums.proofs.Pooled.{blocks_pooled}
use Rattle.sums.proofs.Whole.{each_map, each_kept, pooled_whole, whole_total_within}
use Rattle.sums.proofs.Curve.{curve_returns}

-- the blocks of several shots, added up, give the shots added up entry by entry, modulo p
pub curve_pooled : (N S : ℕ) (w : List ℕ) (shots : List (List ℕ)) → T (allowed_size 2 N) → T (accepted_window N w)
    → Each (λ shot. length shot ≡ S * N) shots → curve_of N S w (pooled_blocks N S w shots) ≡ pooled (S * N) shots
curve_pooled N S w shots size accepted long =
    ap (curve_of N S w) (blocks_pooled N S w shots long)
    ∙ curve_returns N S w (pooled (S * N) shots) size accepted (length_pooled (S * N) shots) (pooled_residues (S * N) shots)

-- and the sum read as whole numbers is exact, wherever it is within half of p: the reading is the shots' samples added up
pub curve_exact : (N S : ℕ) (w : List ℕ) (shots : List (List ℤ)) → T (allowed_size 2 N) → T (accepted_window N w)
    → Each (Samples (S * N) 499122176) shots → ((k : ℕ) → k < S * N → nat_abs (whole_total shots k) ≤ 499122176)
    → reading_of N S w (pooled_blocks N S w (map residues_of shots)) ≡ tab (S * N) (whole_total shots)
curve_exact N S w shots size accepted samples sums =
    ap (map signed_of) (curve_pooled N S w (map residues_of shots) size accepted (each_map residues_of (λ shot s. length-map shot residue_of ∙ s.long) samples))
    ∙ pooled_whole (S * N) shots samples sums

-- as that of up to 64 shots of 16-bit samples is
pub tray_exact : (N S : ℕ) (w : List ℕ) (shots : List (List ℤ)) → T (allowed_size 2 N) → T (accepted_window N w)
    → length shots ≤ 64 → Each (Samples (S * N) 32768) shots
    → reading_of N S w (pooled_blocks N S w (map residues_of shots)) ≡ tab (S * N) (whole_total shots)
tray_exact N S w shots size accepted few samples =
    curve_exact N S w shots size accepted
    (each_kept (λ shot s. record { long = s.long; within = λ k l. omega (arith, s.within k l) }) samples)
    (λ k l. omega (arith, whole_total_within (S * N) 32768 shots samples k l))
