-- The length of an accepted MDCT or IMDCT is even (block_even) and at most 1024, so its slices are segments of the fold and the spread (block_segment). What the fold leaves and what DCT-IV leaves are
-- numbers (fit_folded, fit_dct4). Over any numbers. Assumes nothing.
use mathlib.Core.Path.{◌≡◌, sym, ◌∙◌, ap}
use mathlib.Core.List.{List, ◌++◌}
use Prim.Native.Nat.{ℕ, zero, suc, ◌+◌, ◌*◌, ◌-◌, ◌/◌, ◌^◌, ◌≤◌}
use native.Mathlib.Nat as Nat
use native.Mathlib.Omega.{arith}
use lib.ListN.{length, drop, replicate}
use lib.Seq.{drop_at}
use Rattle.std.proofs.Common.{drop-drop}
use lib.Pow.{pow_mono}
use Rattle.ring.specs.Part.{cleared}
use Rattle.ring.proofs.Powers.{half_power}
use Rattle.sums.specs.Size.{exponent_of}
use Rattle.algorithms.specs.Ops.{Ops, Twiddles}
use Rattle.algorithms.specs.Fold.{folded}
use Rattle.algorithms.specs.Four.{merge_dct4, dct4_by, fast_dct4}
use Rattle.algorithms.specs.Fast.{dct4_fast}
use Rattle.numbers.specs.Closed.{Closed, AllFit}
use Rattle.split.specs.Served.{Served}
use Rattle.split.proofs.Numbers.{fit_tab, fit_back, fit_append}
use Rattle.fold.specs.Ready.{Segment}
use Rattle.mdct_fast.specs.Block.{Block}

even : (k n : ℕ) → n ≡ 2 ^ k → 2 ≤ n → 2 * (n / 2) ≡ n
even zero n is enough = absurd (let no : ⊥ = omega (arith, is, Nat.pow-zero 2) in no)
even (suc k) n is enough = omega (arith, is, Nat.pow-suc 2 k)

module _ {A B : Type 0} {O : Ops A} {Fits : A → Type 0} {turn : B → Twiddles A} {serves : B → ℕ → Type 0} (law : Served Fits turn serves) {by : B} {n k : ℕ}
    {a b c window : List A} (block : Block O Fits serves by n a b c window k) where
  pub block_even : 2 * (n / 2) ≡ n
  block_even =
      let power = law.power by (2 * n) block.served in
      even (power.exponent - 1) n (half_power power.exponent n (omega (arith, block.enough)) power.power) block.enough

  pub block_segment : (x : List A) → AllFit O Fits x → length x ≡ n → Segment O Fits (n / 2) x window
  block_segment x numbers size =
      let power = law.power by (2 * n) block.served in
      let most : 2 ^ power.exponent ≤ 2048 = pow_mono power.small in
      record {
        small = omega (arith, power.power);
        numbers = numbers;
        window_numbers = block.window_numbers;
        x_length = size ∙ sym block_even;
        window_length = omega (arith, block.window_length, block_even);
      }

module _ {A : Type 0} {O : Ops A} {Fits : A → Type 0} (closed : Closed O Fits) where
  pub fit_folded : (g : ℕ) (w first second : List A) → AllFit O Fits (folded O g w first second)
  unfolding folded
  fit_folded g w first second = fit_append _ _ (fit_tab g _ (λ k. closed.sub _ _)) (fit_tab g _ (λ k. closed.sub _ _))

  pub fit_dct4 : (W : Twiddles A) (x : List A) → AllFit O Fits (dct4_fast O W x)
  unfolding dct4_fast fast_dct4 dct4_by merge_dct4
  fit_dct4 W x =
      let m : ℕ = 2 ^ (exponent_of (length x) - 1) in
      fit_append _ _ (fit_tab m _ (λ k. closed.add _ _)) (fit_back m _ (λ k. closed.sub _ _))

-- the first m entries cleared, after a front of n of them was lent and came back as `last`
pub lent_cleared : {A : Type 0} (z : A) (n m : ℕ) (last s : List A) → n ≤ m → length last ≡ n → cleared z m (last ++ drop n s) ≡ cleared z m s
lent_cleared z n m last s within size = ap (λ (rest : List _). replicate m z ++ rest) beyond
  where
    place : n + (m - n) ≡ m
    place = omega arith

    beyond : drop m (last ++ drop n s) ≡ drop m s
    beyond =
        ap (λ (k : ℕ). drop k (last ++ drop n s)) (sym place) ∙ sym (drop-drop (m - n) n (last ++ drop n s))
        ∙ ap (drop (m - n)) (drop_at last (drop n s) n size) ∙ drop-drop (m - n) n s ∙ ap (λ (k : ℕ). drop k s) place
