-- The fast routines by length, over residues, are the defining sums at every size that document 01 allows: of types 2 and 3 (dct2_fast_is, dst2_fast_is, dct3_fast_is,
-- dst3_fast_is), type 4 (dct4_fast_is, dst4_fast_is), MDCT (mdct_fast_is) and both outputs of IMDCT (imdct_fast_first_is, imdct_fast_second_is). Those of types 2 and 3 are it
-- at 2048 as well (dct2_power_is, dst2_power_is, dct3_power_is, dst3_power_is). Assumes nothing.
use mathlib.Core.Path.{◌≡◌, sym, ◌∙◌, ap, subst}
use mathlib.Core.List.{List, ◌++◌}
use Prim.Native.Nat.{ℕ, ◌*◌, ◌-◌, ◌^◌, ◌/◌, ◌≤◌}
use native.Mathlib.Omega.{arith}
use lib.Dec.{T}
use lib.ListN.{length, take, drop}
use Rattle.ring.proofs.Powers.{half_power}
use Rattle.sums.specs.Size.{allowed_size, exponent_of}
use Rattle.sums.specs.Transform.{dct2_sum, dst2_sum, dct3_sum, dst3_sum, dct4_sum, dst4_sum, mdct_sum, imdct_sum}
use Rattle.sums.proofs.Lengths.{Length, type4_length}
use Rattle.sums.proofs.Sizes.{allowed_exponent, allowed_power, allowed_even, exponent_of_power}
use Rattle.algorithms.specs.Fold.{folded, spread_first, spread_second}
use Rattle.algorithms.specs.Split.{split_dct2, split_dst2, split_dct3, split_dst3}
use Rattle.algorithms.specs.Fast.{dct2_fast, dst2_fast, dct3_fast, dst3_fast, dct4_fast, dst4_fast, mdct_fast, imdct_fast_first, imdct_fast_second}
use Rattle.algorithms.specs.Residues.{residue_ops, residue_twiddles}
use Rattle.algorithms.proofs.Split.{split_dct2_is, split_dst2_is, split_dct3_is, split_dst3_is}
use Rattle.algorithms.proofs.Four.{fast_dct4_is, fast_dst4_is}
use Rattle.algorithms.proofs.Fold.{length_folded, mdct_folded, imdct_spread_first, imdct_spread_second}

-- a length that is a power of two up to 2048
module _ (e : ℕ) (small : e ≤ 11) (x : List ℕ) (power : length x ≡ 2 ^ e) where
  exponent : exponent_of (length x) ≡ e
  exponent = exponent_of_power (length x) e small power

  pub dct2_power_is : dct2_fast residue_ops residue_twiddles x ≡ dct2_sum x
  unfolding dct2_fast
  dct2_power_is = ap (λ (k : ℕ). split_dct2 residue_ops residue_twiddles k x) exponent ∙ split_dct2_is e small x power

  pub dst2_power_is : dst2_fast residue_ops residue_twiddles x ≡ dst2_sum x
  unfolding dst2_fast
  dst2_power_is = ap (λ (k : ℕ). split_dst2 residue_ops residue_twiddles k x) exponent ∙ split_dst2_is e small x power

  pub dct3_power_is : dct3_fast residue_ops residue_twiddles x ≡ dct3_sum x
  unfolding dct3_fast
  dct3_power_is = ap (λ (k : ℕ). split_dct3 residue_ops residue_twiddles k x) exponent ∙ split_dct3_is e small x power

  pub dst3_power_is : dst3_fast residue_ops residue_twiddles x ≡ dst3_sum x
  unfolding dst3_fast
  dst3_power_is = ap (λ (k : ℕ). split_dst3 residue_ops residue_twiddles k x) exponent ∙ split_dst3_is e small x power

module _ (x : List ℕ) (allowed : T (allowed_size 1 (length x))) where
  abbrev e : ℕ
  e = exponent_of (length x)

  small : e ≤ 11
  small = omega (arith, (allowed_power 1 (length x) allowed).0)

  power : length x ≡ 2 ^ e
  power = (allowed_power 1 (length x) allowed).1

  pub dct2_fast_is : dct2_fast residue_ops residue_twiddles x ≡ dct2_sum x
  dct2_fast_is = dct2_power_is e small x power

  pub dst2_fast_is : dst2_fast residue_ops residue_twiddles x ≡ dst2_sum x
  dst2_fast_is = dst2_power_is e small x power

  pub dct3_fast_is : dct3_fast residue_ops residue_twiddles x ≡ dct3_sum x
  dct3_fast_is = dct3_power_is e small x power

  pub dst3_fast_is : dst3_fast residue_ops residue_twiddles x ≡ dst3_sum x
  dst3_fast_is = dst3_power_is e small x power

-- half of a size from 2 on
module _ (n : ℕ) (allowed : T (allowed_size 2 n)) where
  twice : 2 * (n / 2) ≡ n
  twice = omega (arith, allowed_even n allowed)

  half_small : exponent_of n - 1 ≤ 9
  half_small = omega (arith, (allowed_power 2 n allowed).0)

  half_is : n / 2 ≡ 2 ^ (exponent_of n - 1)
  half_is = half_power (exponent_of n) (n / 2) (omega (arith, (allowed_exponent 2 n allowed).3)) (twice ∙ (allowed_power 2 n allowed).1)

  turns : Length (4 * (n / 2))
  turns = subst (λ (g : ℕ). Length (4 * g)) (sym half_is) (type4_length (exponent_of n - 1) half_small)

module _ (x : List ℕ) (allowed : T (allowed_size 2 (length x))) where
  halves : length x ≡ 2 * 2 ^ (exponent_of (length x) - 1)
  halves = sym (twice (length x) allowed) ∙ ap (λ (g : ℕ). 2 * g) (half_is (length x) allowed)

  pub dct4_fast_is : dct4_fast residue_ops residue_twiddles x ≡ dct4_sum x
  unfolding dct4_fast
  dct4_fast_is = fast_dct4_is (exponent_of (length x) - 1) (half_small (length x) allowed) x halves

  pub dst4_fast_is : dst4_fast residue_ops residue_twiddles x ≡ dst4_sum x
  unfolding dst4_fast
  dst4_fast_is = fast_dst4_is (exponent_of (length x) - 1) (half_small (length x) allowed) x halves

module _ (N : ℕ) (allowed : T (allowed_size 2 N)) (w first second : List ℕ) (long : length first ≡ N) where
  -- DCT-IV of N entries
  fourth : (x : List ℕ) → length x ≡ N → dct4_fast residue_ops residue_twiddles x ≡ dct4_sum x
  fourth x size = dct4_fast_is x (subst (λ (n : ℕ). T (allowed_size 2 n)) (sym size) allowed)

  whole : length first ≡ 2 * (N / 2)
  whole = long ∙ sym (twice N allowed)

  pub mdct_fast_is : mdct_fast residue_ops residue_twiddles N w first second ≡ mdct_sum N w (first ++ second)
  unfolding mdct_fast
  mdct_fast_is =
      fourth (folded residue_ops (N / 2) w first second) (length_folded residue_ops (N / 2) w first second ∙ twice N allowed)
      ∙ mdct_folded (N / 2) (turns N allowed) w first second whole ∙ ap (λ (n : ℕ). mdct_sum n w (first ++ second)) (twice N allowed)

  module _ (input : List ℕ) (size : length input ≡ N) where
    pub imdct_fast_first_is : imdct_fast_first residue_ops residue_twiddles N w input first ≡ take N (imdct_sum N w (first ++ second) input)
    unfolding imdct_fast_first
    imdct_fast_first_is =
        ap (λ (d : List ℕ). spread_first residue_ops (N / 2) w d first) (fourth input size)
        ∙ imdct_spread_first (N / 2) (turns N allowed) w first second whole input (size ∙ sym (twice N allowed))
        ∙ ap (λ (n : ℕ). take n (imdct_sum n w (first ++ second) input)) (twice N allowed)

    pub imdct_fast_second_is : imdct_fast_second residue_ops residue_twiddles N w input second ≡ drop N (imdct_sum N w (first ++ second) input)
    unfolding imdct_fast_second
    imdct_fast_second_is =
        ap (λ (d : List ℕ). spread_second residue_ops (N / 2) w d second) (fourth input size)
        ∙ imdct_spread_second (N / 2) (turns N allowed) w first second whole input (size ∙ sym (twice N allowed))
        ∙ ap (λ (n : ℕ). drop n (imdct_sum n w (first ++ second) input)) (twice N allowed)
