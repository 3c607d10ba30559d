-- The naive MDCT and IMDCT over residues are the defining sums, at every size that document 01 allows (naive_mdct_is, naive_imdct_first_is, naive_imdct_second_is).
-- A place of the table stands for an angle: twice the place and one more, in units of 1/(8N) of a turn, whole turns taken off (cosine_at_is). It is the angle of the sum; but in
-- the first half of the second output it is the negative angle, which has the same cosine (mirror). Assumes nothing.
use mathlib.Core.Path.{◌≡◌, refl, sym, ◌∙◌, ap, ap₂, subst}
use mathlib.Core.Bool.{Bool, true, false, cond}
use mathlib.Core.List.{List, ◌++◌}
use Prim.Native.Nat.{ℕ, suc, ◌+◌, ◌*◌, ◌-◌, ◌^◌, ◌%◌, ◌/◌, ◌<◌}
use native.Mathlib.Nat as Nat
use native.Mathlib.Omega.{arith}
use lib.Dec.{T, ltb}
use lib.ListN.{length, take, drop, get_or-append}
use lib.Pow.{pow-add}
use lib.Seq.{take_at, drop_at}
use Rattle.ring.specs.Finite.{tab}
use Rattle.ring.proofs.Modular.{mod_mul}
use Rattle.ring.proofs.Table.{length_tab, get_or_tab, tab_ext, tab_append}
use Rattle.sums.specs.Residue.{p}
use Rattle.sums.specs.Angle.{cos_turn}
use Rattle.sums.specs.Size.{allowed_size, exponent_of}
use Rattle.sums.specs.Transform.{sum, entry, mdct_sum, imdct_sum}
use Rattle.sums.proofs.Angles.{cos_opposite}
use Rattle.sums.proofs.Sizes.{allowed_power, allowed_even}
use Rattle.sums.proofs.Turns.{turn_positive, cos_whole_turns, power_whole}
use Rattle.algorithms.specs.Block.{cosine_at, naive_mdct, input_sum, naive_imdct_first, mirrored, naive_imdct_second}
use Rattle.algorithms.specs.Residues.{residue_ops}
use Rattle.algorithms.proofs.Lists.{get_d_after, cond_below}
use Rattle.algorithms.proofs.Naive.{reduced_sum}

-- the table: entry i is the cosine at (2i + 1)/(8N) of a turn
abbrev pub block_cosines : ℕ → List ℕ
block_cosines N = tab (4 * N) (λ i. cos_turn (2 * i + 1) (8 * N))

-- a function of what is chosen
cond_of : {A B : Type 0} (f : A → B) (t : Bool) (a b : A) → f (cond t a b) ≡ cond t (f a) (f b)
cond_of f true a b = refl
cond_of f false a b = refl

module _ (N : ℕ) (allowed : T (allowed_size 2 N)) (w : List ℕ) where
  even : N % 2 ≡ 0
  even = allowed_even N allowed

  whole : 8192 / (8 * N) * (8 * N) ≡ 8192
  whole =
      let found = allowed_power 2 N allowed in
      let power : 2 ^ (3 + exponent_of N) ≡ 8 * N = pow-add 2 3 (exponent_of N) ∙ ap (λ (n : ℕ). 8 * n) (sym found.1) in
      subst (λ (n : ℕ). 8192 / n * n ≡ 8192) power (power_whole (3 + exponent_of N) (omega (arith, found.0)))

  -- the cosine at a/(8N) of a turn, and the angle of the sums
  abbrev cos : ℕ → ℕ
  cos a = cos_turn a (8 * N)

  abbrev angle : ℕ → ℕ → ℕ
  angle n k = (2 * n + 1 + N) * (2 * k + 1)

  mirror : (a b t : ℕ) → a + b ≡ 8 * N * t → cos b ≡ cos a
  mirror a b t e = cos_opposite (a * (8192 / (8 * N))) (b * (8192 / (8 * N))) t (units (8192 / (8 * N)) whole)
    where
      units : (s : ℕ) → s * (8 * N) ≡ 8192 → a * s + b * s ≡ 8192 * t
      units s turn = omega (arith, ap (λ (z : ℕ). z * s) e, ap (λ (z : ℕ). z * t) turn)

  cosine_at_is : (place : ℕ) → cosine_at residue_ops N (block_cosines N) w place ≡ cos (2 * place + 1)
  cosine_at_is place =
      let some : 0 < 4 * N = omega (arith, turn_positive (8 * N) whole) in
      get_or_tab (4 * N) _ (place % (4 * N)) 0 (Nat.mod-lt place some)
      ∙ sym (cos_whole_turns (8 * N) whole _ (2 * place + 1) (place / (4 * N)) (doubled (place % (4 * N)) (place / (4 * N)) (Nat.mod-add-div place (4 * N))))
    where
      doubled : (r q : ℕ) → r + 4 * N * q ≡ place → 2 * place + 1 ≡ 2 * r + 1 + 8 * N * q
      doubled r q e = omega arith

  pub naive_mdct_is : (first second : List ℕ) → naive_mdct residue_ops N (block_cosines N) w first second ≡ mdct_sum N w (first ++ second)
  unfolding naive_mdct mdct_sum
  naive_mdct_is first second =
      tab_ext N
      (λ k _.
      reduced_sum (2 * N) (λ n. entry w n * entry (first ++ second) n * cos (angle n k)) _
      (λ n _. term (entry (first ++ second) n) (entry w n) (cosine_at_is _ ∙ ap cos (placed k n))))
    where
      placed : (k n : ℕ) → 2 * (N / 2 + k * (N + 1) + n * (2 * k + 1)) + 1 ≡ angle n k
      placed k n = omega (arith, even)

      term : (x v : ℕ) {c d : ℕ} → c ≡ d → residue_ops.mul (residue_ops.mul x v) c ≡ v * x * d % p
      term x v {c} same = mod_mul (x * v) c p ∙ ap₂ (λ (a b : ℕ). a * b % p) (Nat.mul_comm x v) same

  module _ (first second : List ℕ) (long : length first ≡ N) (input : List ℕ) where
    abbrev held : List ℕ
    held = first ++ second

    -- the sum over the input, and with it the entry at n
    abbrev total : ℕ → ℕ
    total n = sum N (λ k. entry input k * cos (angle n k))

    abbrev value : ℕ → ℕ
    value n = (entry held n + entry w n * total n) % p

    halves : imdct_sum N w held input ≡ tab N value ++ tab N (λ n. value (N + n))
    unfolding imdct_sum
    halves = let twice : 2 * N ≡ N + N = omega arith in ap (λ (n : ℕ). tab n value) twice ∙ tab_append N N value

    -- a sum whose places have the cosines at n, added to what is held there
    added : (n h start stride : ℕ) → h ≡ entry held n → ((k : ℕ) → cos (2 * (start + k * stride) + 1) ≡ cos (angle n k))
        → residue_ops.add h (residue_ops.mul (input_sum residue_ops N (block_cosines N) w input start stride) (entry w n)) ≡ value n
    added n h start stride is same =
        ap₂ (λ (a s : ℕ). (a + s * entry w n % p) % p) is
        (reduced_sum N (λ k. entry input k * cos (angle n k)) _ (λ k _. ap (λ (c : ℕ). entry input k * c % p) (cosine_at_is (start + k * stride) ∙ same k)))
        ∙ reduced (entry held n) (entry w n) (total n)
      where
        reduced : (h v s : ℕ) → (h + s % p * v % p) % p ≡ (h + v * s) % p
        reduced h v s =
            ap (λ (a : ℕ). (h + a) % p) (mod_mul s v p) ∙ Nat.add-mod-mod h (s * v) p ∙ ap (λ (a : ℕ). (h + a) % p) (Nat.mul_comm s v)

    pub naive_imdct_first_is : naive_imdct_first residue_ops N (block_cosines N) w input first ≡ take N (imdct_sum N w (first ++ second) input)
    unfolding naive_imdct_first
    naive_imdct_first_is =
        tab_ext N (λ n l. added n (entry first n) _ _ (sym (get_or-append first second 0 n (omega arith))) (λ k. ap cos (placed n k)))
        ∙ sym (ap (take N) halves ∙ take_at (tab N value) _ N (length_tab N value))
      where
        placed : (n k : ℕ) → 2 * (N / 2 + n + k * (N + 2 * n + 1)) + 1 ≡ angle n k
        placed n k = omega (arith, even)

    pub naive_imdct_second_is : naive_imdct_second residue_ops N (block_cosines N) w input second ≡ drop N (imdct_sum N w (first ++ second) input)
    unfolding naive_imdct_second
    naive_imdct_second_is =
        tab_ext N (λ n l. added (N + n) (entry second n) _ _ (sym (get_d_after first second N n 0 long)) (same n l))
        ∙ sym (ap (drop N) halves ∙ drop_at (tab N value) _ N (length_tab N value))
      where
        -- the cosine of term k, where the index is mirrored to m
        placed : ℕ → ℕ → ℕ
        placed k m = cos (2 * (2 * N + N / 2 - 1 - m + k * (N - 1 - 2 * m)) + 1)

        -- in the first half the two angles make up whole turns
        low : (n k start stride : ℕ) → start + 1 + n ≡ 2 * N + N / 2 → stride + 1 + 2 * n ≡ N
            → angle (N + n) k + (2 * (start + k * stride) + 1) ≡ 8 * N * suc k
        low n k start stride begins goes = omega (arith, even, ap (λ (z : ℕ). 2 * k * z) goes)

        -- in the second they differ by whole turns
        high : (n k start stride : ℕ) → start ≡ N + N / 2 + n → stride + N ≡ 2 * n + 1
            → angle (N + n) k ≡ 2 * (start + k * stride) + 1 + 8 * N * k
        high n k start stride begins goes = omega (arith, even, ap (λ (z : ℕ). 2 * k * z) goes)

        same : (n : ℕ) → n < N → (k : ℕ) → placed k (mirrored residue_ops N (block_cosines N) w n) ≡ cos (angle (N + n) k)
        same n l k =
            cond_of (placed k) (ltb n (N / 2)) n (N - 1 - n)
            ∙ cond_below n (N / 2) (placed k n) (placed k (N - 1 - n)) _
            (λ below. mirror _ _ (suc k) (low n k _ _ (omega arith) (omega arith)))
            (λ above. sym (cos_whole_turns (8 * N) whole _ _ k (high n k _ _ (omega (arith, even)) (omega arith))))
