-- Blocks are linear: lists of numbers that are added entry by entry have the blocks that are added entry by entry, two lists (blocks_plus)
-- or any number of them (blocks_pooled). Assumes nothing.
use mathlib.Core.Path.{◌≡◌, refl, sym, ◌∙◌, ap, ap₂}
use mathlib.Core.List.{List, [], ◌++◌, map}
use Prim.Native.Nat.{ℕ, zero, suc, ◌+◌, ◌*◌, ◌<◌}
use native.Mathlib.Omega.{arith}
use lib.ListN.{length, take, drop, length-drop, length-replicate}
use lib.Seq.{length-take-le}
use Rattle.ring.proofs.Ring as Ring
use Rattle.ring.proofs.Sum as Sum
use Rattle.ring.proofs.Modular.{Residue, of, of_add, of_mul, of_zero}
use Rattle.sums.specs.Residue.{p}
use Rattle.sums.specs.Angle.{cos_turn}
use Rattle.sums.specs.Transform.{sum, entry, mdct_sum}
use Rattle.sums.specs.Shots.{Each, none, more}
use Rattle.sums.specs.Curve.{quiet, blocks_after, blocks_of, total, pooled, pooled_blocks, plus}
use Rattle.sums.proofs.Constants.{above, Zp}
use Rattle.sums.proofs.Lengths.{of_products}
use Rattle.sums.proofs.Outputs.{residues, of_output, outputs_only, length_mdct}
use Rattle.sums.proofs.Plus.{of_plus, plus_append, plus_take, plus_drop, quiet_plus}
use Rattle.sums.proofs.AnyOrder.{length_pooled, pooled_both, pooled_more}

module _ (N : ℕ) (w : List ℕ) where
  -- the cosine of entry n in output k
  cosine : ℕ → ℕ → ℕ
  cosine k n = cos_turn ((2 * n + 1 + N) * (2 * k + 1)) (8 * N)

  of_mdct : (x : List ℕ) (k : ℕ) → k < N
      → residues (mdct_sum N w x) k ≡ Sum.sum Zp (2 * N) (λ n. Zp.mul (of p (entry w n * entry x n)) (of p (cosine k n)))
  unfolding mdct_sum cosine
  of_mdct x k l =
      of_output N (λ k. sum (2 * N) (λ n. entry w n * entry x n * cosine k n)) k l
      ∙ of_products (2 * N) (λ n. entry w n * entry x n) (cosine k) (λ n. of p (cosine k n)) (λ n. refl)

  -- a window's entry times a sum
  of_windowed : (x y : List ℕ) (n : ℕ) → n < 2 * N
      → of p (entry w n * entry (plus (2 * N) x y) n) ≡ Zp.add (of p (entry w n * entry x n)) (of p (entry w n * entry y n))
  of_windowed x y n l =
      of_mul p above (entry w n) (entry (plus (2 * N) x y) n) ∙ ap (Zp.mul (residues w n)) (of_plus (2 * N) x y n l)
      ∙ Ring.mul_add Zp (residues w n) (residues x n) (residues y n)
      ∙ sym (ap₂ Zp.add (of_mul p above (entry w n) (entry x n)) (of_mul p above (entry w n) (entry y n)))

  mdct_plus : (x y : List ℕ) → mdct_sum N w (plus (2 * N) x y) ≡ plus N (mdct_sum N w x) (mdct_sum N w y)
  unfolding mdct_sum cosine plus
  mdct_plus x y =
      outputs_only (mdct_sum N w (plus (2 * N) x y)) N (λ k. sum (2 * N) (λ n. entry w n * entry (plus (2 * N) x y) n * cosine k n))
      (λ k. entry (mdct_sum N w x) k + entry (mdct_sum N w y) k)
      refl
      (λ k l.
      of_mdct (plus (2 * N) x y) k l
      ∙ Sum.sum_ext Zp (2 * N) _ _
      (λ n b.
      ap (λ (r : Residue p). Zp.mul r (of p (cosine k n))) (of_windowed x y n b)
      ∙ Zp.add_mul (of p (entry w n * entry x n)) (of p (entry w n * entry y n)) (of p (cosine k n)))
      ∙ Sum.sum_add Zp (2 * N) (λ n. Zp.mul (of p (entry w n * entry x n)) (of p (cosine k n)))
      (λ n. Zp.mul (of p (entry w n * entry y n)) (of p (cosine k n)))
      ∙ sym (of_add p above (entry (mdct_sum N w x) k) (entry (mdct_sum N w y) k) ∙ ap₂ Zp.add (of_mdct x k l) (of_mdct y k l)))

  -- two segments side by side
  pair_plus : (a b x y : List ℕ) → length a ≡ N → length b ≡ N
      → mdct_sum N w (plus N a b ++ plus N x y) ≡ plus N (mdct_sum N w (a ++ x)) (mdct_sum N w (b ++ y))
  pair_plus a b x y la lb =
      let two : N + N ≡ 2 * N = omega arith in
      ap (mdct_sum N w) (plus_append N N a b x y la lb ∙ ap (λ (n : ℕ). plus n (a ++ x) (b ++ y)) two) ∙ mdct_plus (a ++ x) (b ++ y)

  -- the blocks of a sum are the sum of the blocks
  blocks_after_plus : (S : ℕ) (a b x y : List ℕ) → length a ≡ N → length b ≡ N → length x ≡ S * N → length y ≡ S * N
      → blocks_after N w S (plus N a b) (plus (S * N) x y) ≡ plus (suc S * N) (blocks_after N w S a x) (blocks_after N w S b y)
  unfolding blocks_after
  blocks_after_plus zero a b x y la lb lx ly =
      let one : N ≡ suc zero * N = omega arith in
      ap (λ (z : List ℕ). mdct_sum N w (plus N a b ++ z)) (quiet_plus N) ∙ pair_plus a b (quiet N) (quiet N) la lb
      ∙ ap (λ (n : ℕ). plus n (mdct_sum N w (a ++ quiet N)) (mdct_sum N w (b ++ quiet N))) one
  blocks_after_plus (suc S) a b x y la lb lx ly =
      let less : suc S * N ≡ N + S * N = omega arith in
      let total : N + suc S * N ≡ suc (suc S) * N = omega arith in
      let tx : length (take N x) ≡ N = length-take-le N x (omega arith) in
      let ty : length (take N y) ≡ N = length-take-le N y (omega arith) in
      let dx : length (drop N x) ≡ S * N = omega (arith, length-drop N x) in
      let dy : length (drop N y) ≡ S * N = omega (arith, length-drop N y) in
      ap (λ (n : ℕ). blocks_after N w (suc S) (plus N a b) (plus n x y)) less
      ∙ ap₂ (λ (s r : List ℕ). mdct_sum N w (plus N a b ++ s) ++ blocks_after N w S s r) (plus_take N (S * N) x y) (plus_drop N (S * N) x y)
      ∙ ap₂ ◌++◌ (pair_plus a b (take N x) (take N y) la lb) (blocks_after_plus S (take N x) (take N y) (drop N x) (drop N y) tx ty dx dy)
      ∙ plus_append N (suc S * N) (mdct_sum N w (a ++ take N x)) (mdct_sum N w (b ++ take N y)) (blocks_after N w S (take N x) (drop N x))
      (blocks_after N w S (take N y) (drop N y)) (length_mdct N w (a ++ take N x)) (length_mdct N w (b ++ take N y))
      ∙ ap (λ (n : ℕ). plus n (blocks_after N w (suc S) a x) (blocks_after N w (suc S) b y)) total

  pub blocks_plus : (S : ℕ) (x y : List ℕ) → length x ≡ S * N → length y ≡ S * N
      → blocks_of N S w (plus (S * N) x y) ≡ plus (suc S * N) (blocks_of N S w x) (blocks_of N S w y)
  unfolding blocks_of
  blocks_plus S x y lx ly =
      ap (λ (before : List ℕ). blocks_after N w S before (plus (S * N) x y)) (quiet_plus N)
      ∙ blocks_after_plus S (quiet N) (quiet N) x y (length-replicate N 0) (length-replicate N 0) lx ly

-- a list that is added to itself with no change is the empty pool
own_double : (n : ℕ) (x : List ℕ) → x ≡ plus n x x → x ≡ pooled n []
unfolding plus pooled total
own_double n x e =
    outputs_only x n (λ k. entry x k + entry x k) (λ k. 0) e
    (λ k l.
    Ring.add_cancel Zp (residues x k) (residues x k) (of p 0)
    (sym (of_plus n x x k l) ∙ ap (λ (z : List ℕ). residues z k) (sym e) ∙ sym (Ring.add_nought Zp (residues x k)) ∙ ap (Zp.add (residues x k)) (sym (of_zero p above))))

-- the blocks of several shots, added up, are the blocks of the shots added up
pub blocks_pooled : (N S : ℕ) (w : List ℕ) (shots : List (List ℕ)) → Each (λ shot. length shot ≡ S * N) shots
    → pooled_blocks N S w shots ≡ blocks_of N S w (pooled (S * N) shots)
unfolding pooled_blocks
blocks_pooled N S w shots none =
    sym (own_double (suc S * N) (blocks_of N S w (pooled (S * N) []))
    (ap (blocks_of N S w) (pooled_both (S * N) [] [])
    ∙ blocks_plus N w S (pooled (S * N) []) (pooled (S * N) []) (length_pooled (S * N) []) (length_pooled (S * N) [])))
blocks_pooled N S w shots (more {x} {rest} long others) =
    pooled_more (suc S * N) [] (blocks_of N S w x) (map (blocks_of N S w) rest)
    ∙ ap (λ (c : List ℕ). plus (suc S * N) c (blocks_of N S w x)) (blocks_pooled N S w rest others)
    ∙ sym (blocks_plus N w S (pooled (S * N) rest) x (length_pooled (S * N) rest) long)
    ∙ ap (blocks_of N S w) (sym (pooled_more (S * N) [] x rest))
