-- What an accepted fast MDCT or IMDCT lends to the routine over any numbers (mdct_ready, imdct_ready), which then leaves the defining sums (mdct_is, imdct_first_is, imdct_second_is).
-- An accepted length is allowed (block_small, allowed), and residues are numbers (numbers). Assumes nothing.
use mathlib.Core.Path.{◌≡◌}
use mathlib.Core.List.{List, ◌++◌}
use Prim.Native.Nat.{ℕ, suc, ◌+◌, ◌*◌, ◌^◌, ◌<◌, ◌≤◌}
use native.Mathlib.Nat as Nat
use native.Mathlib.Omega.{arith}
use lib.Dec.{T}
use lib.ListN.{length, take, drop}
use lib.Pow.{pow_mono}
use Rattle.sums.specs.Cosines.{Cosines}
use Rattle.sums.specs.Residue.{p, Residues}
use Rattle.sums.specs.Size.{allowed_size}
use Rattle.sums.specs.Transform.{mdct_sum, imdct_sum}
use Rattle.sums.proofs.Sizes.{exponent_allowed}
use Rattle.algorithms.specs.Fast.{mdct_fast, imdct_fast_first, imdct_fast_second}
use Rattle.algorithms.specs.Residues.{residue_ops, residue_twiddles}
use Rattle.algorithms.proofs.FastSums.{mdct_fast_is, imdct_fast_first_is, imdct_fast_second_is}
use Rattle.lending.specs.Accepted.{Block, MdctAccepted, ImdctAccepted}
use Rattle.mdct_fast.specs.Block as Ready
use Rattle.numbers.specs.Closed.{AllFit}
use Rattle.split.specs.Tabled.{LevelsOf}
use Rattle.split.specs.declared.twiddles.Levels.{Levels}

abbrev pub below : ℕ → Type 0
below r = r < p

abbrev serves : Levels → ℕ → Type 0
serves by n = LevelsOf n by.table.now

pub numbers : {x : List ℕ} → Residues x → AllFit residue_ops below x
numbers residues = record { each = residues.below }

module _ {parts n k : ℕ} {a b c w : List ℕ} (block : Block parts n a b c w k) where
  pub block_small : 2 * n ≤ 2048
  block_small = let most : 2 ^ block.exponent ≤ 1024 = pow_mono block.small in omega (arith, block.power)

  pub allowed : T (allowed_size 2 n)
  allowed = rw block.power (exponent_allowed 2 block.exponent block.small (omega (arith, block.power, block.enough)))

module _ {n k : ℕ} {a b c w : List ℕ} (block : Block 2 n a b c w k) where
  block_ready : {by : Levels} → Cosines by.table.now → 2 * n ≤ length by.table.now + 1 → Ready.Block residue_ops below serves by n a b c w k
  block_ready cosines enough = record {
    served = record { cosines = cosines; exponent = suc block.exponent; power = omega (arith, block.power, Nat.pow-suc 2 block.exponent); enough = enough };
    enough = block.enough;
    a_length = block.a_length;
    b_length = block.b_length;
    c_length = block.c_length;
    window_length = block.window_length;
    room = block.room;
    window_numbers = numbers block.window_residues;
  }

module _ {n k : ℕ} {first second output w : List ℕ} (a : MdctAccepted 2 n first second output w k) where
  pub mdct_ready : {by : Levels} → Cosines by.table.now → 2 * n ≤ length by.table.now + 1 → Ready.MdctReady residue_ops below serves by n first second output w k
  mdct_ready cosines enough = record {
    block = block_ready a.block cosines enough;
    first_numbers = numbers a.first_residues;
    second_numbers = numbers a.second_residues;
  }

  pub mdct_is : mdct_fast residue_ops residue_twiddles n w first second ≡ mdct_sum n w (first ++ second)
  mdct_is = mdct_fast_is n (allowed a.block) w first second a.block.a_length

module _ {n k : ℕ} {input first second w : List ℕ} (a : ImdctAccepted 2 n input first second w k) where
  pub imdct_ready : {by : Levels} → Cosines by.table.now → 2 * n ≤ length by.table.now + 1 → Ready.ImdctReady residue_ops below serves by n input first second w k
  imdct_ready cosines enough = record {
    block = block_ready a.block cosines enough;
    input_numbers = numbers a.input_residues;
    first_numbers = numbers a.first_residues;
    second_numbers = numbers a.second_residues;
  }

  pub imdct_first_is : imdct_fast_first residue_ops residue_twiddles n w input first ≡ take n (imdct_sum n w (first ++ second) input)
  imdct_first_is = imdct_fast_first_is n (allowed a.block) w first second a.block.b_length input a.block.a_length

  pub imdct_second_is : imdct_fast_second residue_ops residue_twiddles n w input second ≡ drop n (imdct_sum n w (first ++ second) input)
  imdct_second_is = imdct_fast_second_is n (allowed a.block) w first second a.block.b_length input a.block.a_length
