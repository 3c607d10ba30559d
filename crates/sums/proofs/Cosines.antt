-- The table of cosines: its length, its entries (cosines_entry), and what a step of split radix reads in it, the cosines and the sines at odd multiples
-- of 1/(16q) of a turn (cosines_cos, cosines_sin). A sine is the cosine as far from the quarter of a turn, so it stands in the same level. Assumes nothing.
use mathlib.Core.Path.{◌≡◌, ap, subst, sym, ◌∙◌}
use mathlib.Core.Logic.{⊎_elim}
use mathlib.Core.List.{List}
use Prim.Native.Nat.{ℕ, zero, suc, ◌+◌, ◌*◌, ◌-◌, ◌^◌, ◌/◌, ◌<◌, ◌≤◌}
use native.Mathlib.Nat as Nat
use native.Mathlib.Omega.{arith}
use lib.ListN.{length, get_or, length-append, get_or-append}
use lib.Pow.{pow-add, pow_mono, pow_pos}
use lib.Seq.{get_or-append-add}
use Rattle.ring.proofs.Table.{length_tab, get_or_tab}
use Rattle.sums.specs.Residue.{p}
use Rattle.sums.specs.Angle.{cos_turn, sin_turn}
use Rattle.sums.specs.Cosines.{cosines_level, cosines_table, Cosines}
use Rattle.sums.proofs.Angles.{cos_below}
use Rattle.sums.proofs.Turns.{cos_quarter, power_whole}

level_length : (M : ℕ) → length (cosines_level M) ≡ M
unfolding cosines_level
level_length M = length_tab M (λ i. cos_turn (2 * i + 1) (8 * M))

level_entry : (M i : ℕ) → i < M → get_or (cosines_level M) i 0 ≡ cos_turn (2 * i + 1) (8 * M)
unfolding cosines_level
level_entry M i below = get_or_tab M (λ i. cos_turn (2 * i + 1) (8 * M)) i 0 below

table_more : (m : ℕ) → length (cosines_table (suc m)) ≡ length (cosines_table m) + 2 ^ m
unfolding cosines_table
table_more m = length-append (cosines_table m) (cosines_level (2 ^ m)) ∙ ap (λ (x : ℕ). length (cosines_table m) + x) (level_length (2 ^ m))

pub cosines_length : (m : ℕ) → length (cosines_table m) + 1 ≡ 2 ^ m
unfolding cosines_table
cosines_length zero = sym (Nat.pow-zero 2)
cosines_length (suc m) = omega (arith, table_more m, cosines_length m, Nat.pow-suc 2 m)

-- the first m levels, and the level after them
earlier : (m k : ℕ) → k < length (cosines_table m) → get_or (cosines_table (suc m)) k 0 ≡ get_or (cosines_table m) k 0
unfolding cosines_table
earlier m k below = get_or-append (cosines_table m) (cosines_level (2 ^ m)) 0 k below

last : (m i k : ℕ) → i < 2 ^ m → k ≡ length (cosines_table m) + i → get_or (cosines_table (suc m)) k 0 ≡ cos_turn (2 * i + 1) (8 * 2 ^ m)
unfolding cosines_table
last m i k below is =
    ap (λ (x : ℕ). get_or (cosines_table (suc m)) x 0) is ∙ get_or-append-add (cosines_table m) (cosines_level (2 ^ m)) i 0
    ∙ level_entry (2 ^ m) i below

table_entry : (m k i : ℕ) → k < m → i < 2 ^ k → get_or (cosines_table m) (2 ^ k - 1 + i) 0 ≡ cos_turn (2 * i + 1) (8 * 2 ^ k)
table_entry zero k i level below = absurd (Nat.not-suc-le-zero level)
table_entry (suc m) k i level below =
    ⊎_elim
    (λ (same : k ≡ m).
    subst (λ (k : ℕ). i < 2 ^ k → get_or (cosines_table (suc m)) (2 ^ k - 1 + i) 0 ≡ cos_turn (2 * i + 1) (8 * 2 ^ k)) (sym same)
    (λ below. last m i (2 ^ m - 1 + i) below (omega (arith, cosines_length m))) below)
    (λ (lower : k < m).
    earlier m (2 ^ k - 1 + i) (omega (arith, cosines_length m, pow_mono lower, Nat.pow-suc 2 k, pow_pos k)) ∙ table_entry m k i lower below)
    (Nat.eq-or-lt_of_le (Nat.le_of_suc-le-suc level))

table_below : (m k : ℕ) → k < length (cosines_table m) → get_or (cosines_table m) k 0 < p
unfolding cosines_table
table_below zero k below = absurd (Nat.not-suc-le-zero below)
table_below (suc m) k below =
    ⊎_elim
    (λ (past : length (cosines_table m) - k ≡ 0).
    subst (λ (x : ℕ). x < p)
    (sym (last m (k - length (cosines_table m)) k (omega (arith, table_more m)) (omega arith)))
    (cos_below ((2 * (k - length (cosines_table m)) + 1) * (8192 / (8 * 2 ^ m)))))
    (λ (before : 0 < length (cosines_table m) - k).
    let early : k < length (cosines_table m) = omega arith in
    subst (λ (x : ℕ). x < p) (sym (earlier m k early)) (table_below m k early))
    (Nat.eq-zero-or-pos (length (cosines_table m) - k))

-- of two powers of two, the smaller has the smaller exponent
smaller : (k m : ℕ) → 2 * 2 ^ k ≤ 2 ^ m → k < m
smaller k m h = Nat.lt_of_not-le (λ above. omega (arith, pow_mono above, pow_pos k))

-- what a function that hands out such a table ensures of it
pub table_cosines : (m : ℕ) (t : List ℕ) → m ≤ 11 → t ≡ cosines_table m → Cosines t
table_cosines m t small is = record {
  levels = m;
  small = small;
  rule = is;
}

-- the entries of a lent table
module _ (t : List ℕ) (C : Cosines t) where
  whole_length : length t + 1 ≡ 2 ^ C.levels
  whole_length = ap (λ (t : List ℕ). length t + 1) C.rule ∙ cosines_length C.levels

  pub cosines_bound : length t + 1 ≤ 2048
  cosines_bound = omega (arith, whole_length, pow_mono C.small)

  pub cosines_below : (k : ℕ) → k < length t → get_or t k 0 < p
  cosines_below =
      subst (λ (t : List ℕ). (k : ℕ) → k < length t → get_or t k 0 < p) (sym C.rule) (table_below C.levels)

  pub cosines_entry : (k i : ℕ) → 2 * 2 ^ k ≤ length t + 1 → i < 2 ^ k → get_or t (2 ^ k - 1 + i) 0 ≡ cos_turn (2 * i + 1) (8 * 2 ^ k)
  cosines_entry k i enough below =
      ap (λ (t : List ℕ). get_or t (2 ^ k - 1 + i) 0) C.rule
      ∙ table_entry C.levels k i (smaller k C.levels (subst (λ (x : ℕ). 2 * 2 ^ k ≤ x) whole_length enough)) below

  pub cosines_first : 2 ≤ length t + 1 → get_or t 0 0 ≡ cos_turn 1 8
  cosines_first enough = cosines_entry 0 0 enough (Nat.le_refl 1)

  -- the level of 2q cosines, which a step at 4q entries reads
  module _ (e q : ℕ) (power : q ≡ 2 ^ e) (enough : 4 * q ≤ length t + 1) where
    level : (i : ℕ) → i < 2 * q → get_or t (2 * q - 1 + i) 0 ≡ cos_turn (2 * i + 1) (16 * q)
    level i below =
        let double : 2 ^ suc e ≡ 2 * q = omega (arith, Nat.pow-suc 2 e) in
        subst (λ (M : ℕ). 2 * M ≤ length t + 1 → i < M → get_or t (M - 1 + i) 0 ≡ cos_turn (2 * i + 1) (8 * M)) double (cosines_entry (suc e) i) (omega arith) below
        ∙ ap (λ (x : ℕ). cos_turn (2 * i + 1) x) (omega arith)

    turn : 8192 / (16 * q) * (16 * q) ≡ 8192
    turn =
        let is : 2 ^ (e + 4) ≡ 16 * q = pow-add 2 e 4 ∙ omega arith in
        let small : e + 4 ≤ 13 = omega (arith, smaller (suc e) C.levels (omega (arith, whole_length, Nat.pow-suc 2 e)), C.small) in
        subst (λ (n : ℕ). 8192 / n * n ≡ 8192) is (power_whole (e + 4) small)

    pub cosines_cos : (i : ℕ) → i < q → get_or t (2 * q - 1 + i) 0 ≡ cos_turn (2 * i + 1) (16 * q)
    cosines_cos i below = level i (omega arith)

    pub cosines_sin : (i : ℕ) → i < q → get_or t (4 * q - 2 - i) 0 ≡ sin_turn (2 * i + 1) (16 * q)
    cosines_sin i below =
        let place : 4 * q - 2 - i ≡ 2 * q - 1 + (2 * q - 1 - i) = omega arith in
        ap (λ (k : ℕ). get_or t k 0) place ∙ level (2 * q - 1 - i) (omega arith)
        ∙ cos_quarter (16 * q) turn (2 * i + 1) (2 * (2 * q - 1 - i) + 1) (4 * q) (omega arith) (omega arith)
