-- Pooling is blind to order: document 01, "The tray". The laws of shots that are added up, of `total` and `whole_total` (entry by entry, as numbers),
-- `pooled` (lists modulo p) and `pooled_blocks` (the blocks of shots).
-- No shot: pooled_none, pooled_blocks_none, whole_total_none. Two lots of shots: total_append, pooled_both, pooled_blocks_both, whole_total_append.
-- A shot more or less, anywhere: total_more, pooled_more, pooled_less, pooled_blocks_more, pooled_blocks_less, whole_total_more, whole_total_less.
-- Permuted shots: total_permuted, pooled_permuted, pooled_blocks_permuted, whole_total_permuted.
-- Lengths and entries below p: length_pooled, pooled_residues, length_pooled_blocks, pooled_blocks_residues. Assumes nothing.
use mathlib.Core.Path.{◌≡◌, refl, sym, ◌∙◌, ap, ap₂}
use mathlib.Core.Logic.{∥∥₁_elim}
use mathlib.Core.List.Perm
use mathlib.Core.List.{List, [], ◌∷◌, ◌++◌, map, map-append, Perm, Permᴰ}
use Prim.Native.Nat.{ℕ, suc, ◌+◌, ◌*◌, ◌%◌, ◌<◌}
use native.Mathlib.Nat as Nat
use lib.ListN.{length, get_or, get_or-replicate, length-replicate}
use lib.IntN.{ℤ, pos, ◌+ℤ◌, ◌-ℤ◌, ℤ_set, +ℤ_idl, +ℤ_assoc, +ℤ_comm, +ℤ-neg_ℤ_cancel}
use Rattle.ring.proofs.Table.{length_tab, get_or_tab, is_tab, tab_ext}
use Rattle.sums.specs.Residue.{p, Residues}
use Rattle.sums.specs.Transform.{entry}
use Rattle.sums.specs.Curve.{quiet, blocks_of, total, pooled, pooled_blocks, plus, minus, whole_total}
use Rattle.sums.proofs.Outputs.{outputs_residues}
use Rattle.sums.proofs.Plus.{minus_of_plus}

-- `all` adds up a value of each entry of a list, by an operation for which order and brackets do not matter
record Adds {A M : Type 0} (add : M → M → M) (value : A → M) (all : List A → M) : Type 0 where
  set : IsSet M
  comm : (a b : M) → add a b ≡ add b a
  assoc : (a b c : M) → add (add a b) c ≡ add a (add b c)
  none_add : (m : M) → add (all []) m ≡ m
  one_more : (x : A) (rest : List A) → all (x ∷ rest) ≡ add (value x) (all rest)

module _ {A M : Type 0} {add : M → M → M} {value : A → M} {all : List A → M} (adds : Adds add value all) where
  swap : (a b c : M) → add a (add b c) ≡ add b (add a c)
  swap a b c = sym (adds.assoc a b c) ∙ ap (λ (m : M). add m c) (adds.comm a b) ∙ adds.assoc b a c

  all_both : (xs ys : List A) → all (xs ++ ys) ≡ add (all xs) (all ys)
  all_both [] ys = sym (adds.none_add (all ys))
  all_both (x ∷ xs) ys =
      adds.one_more x (xs ++ ys) ∙ ap (add (value x)) (all_both xs ys) ∙ sym (adds.assoc (value x) (all xs) (all ys))
      ∙ ap (λ (m : M). add m (all ys)) (sym (adds.one_more x xs))

  all_more : (before : List A) (x : A) (after : List A) → all (before ++ x ∷ after) ≡ add (value x) (all (before ++ after))
  all_more before x after =
      all_both before (x ∷ after) ∙ ap (add (all before)) (adds.one_more x after) ∙ swap (all before) (value x) (all after)
      ∙ ap (add (value x)) (sym (all_both before after))

  all_permutedᴰ : {xs ys : List A} → Permᴰ xs ys → all xs ≡ all ys
  all_permutedᴰ Permᴰ.nil = refl
  all_permutedᴰ (Permᴰ.cons {a} {b} {l₁} {l₂} same rest) =
      adds.one_more a l₁ ∙ ap₂ (λ (x : A) (m : M). add (value x) m) same (all_permutedᴰ rest) ∙ sym (adds.one_more b l₂)
  all_permutedᴰ (Permᴰ.swap {a} {b} {a'} {b'} {l} one other) =
      two a b ∙ swap (value a) (value b) (all l) ∙ ap₂ (λ (x y : A). add (value x) (add (value y) (all l))) other one ∙ sym (two a' b')
    where
      two : (x y : A) → all (x ∷ y ∷ l) ≡ add (value x) (add (value y) (all l))
      two x y = adds.one_more x (y ∷ l) ∙ ap (add (value x)) (adds.one_more y l)
  all_permutedᴰ (Permᴰ.trans first then) = all_permutedᴰ first ∙ all_permutedᴰ then

  all_permuted : {xs ys : List A} → Perm xs ys → all xs ≡ all ys
  all_permuted {xs} {ys} perm = ∥∥₁_elim perm (adds.set (all xs) (all ys)) all_permutedᴰ

total_adds : (k : ℕ) → Adds ◌+◌ (λ (x : List ℕ). entry x k) (λ (lists : List (List ℕ)). total lists k)
unfolding total
total_adds k = record { set = Nat.ℕ_set; comm = Nat.add_comm; assoc = Nat.add_assoc; none_add = Nat.zero-add; one_more = λ x rest. refl }

pub total_append : (xs ys : List (List ℕ)) (k : ℕ) → total (xs ++ ys) k ≡ total xs k + total ys k
total_append xs ys k = all_both (total_adds k) xs ys

pub total_more : (before : List (List ℕ)) (x : List ℕ) (after : List (List ℕ)) (k : ℕ)
    → total (before ++ x ∷ after) k ≡ entry x k + total (before ++ after) k
total_more before x after k = all_more (total_adds k) before x after

pub total_permuted : {xs ys : List (List ℕ)} → Perm xs ys → (k : ℕ) → total xs k ≡ total ys k
total_permuted perm k = all_permuted (total_adds k) perm

whole_total_adds : (k : ℕ) → Adds ◌+ℤ◌ (λ (x : List ℤ). get_or x k (pos 0)) (λ (shots : List (List ℤ)). whole_total shots k)
unfolding whole_total
whole_total_adds k = record { set = ℤ_set; comm = +ℤ_comm; assoc = +ℤ_assoc; none_add = +ℤ_idl; one_more = λ x rest. refl }

pub whole_total_none : (k : ℕ) → whole_total [] k ≡ pos 0
unfolding whole_total
whole_total_none k = refl

pub whole_total_append : (xs ys : List (List ℤ)) (k : ℕ) → whole_total (xs ++ ys) k ≡ whole_total xs k +ℤ whole_total ys k
whole_total_append xs ys k = all_both (whole_total_adds k) xs ys

pub whole_total_more : (before : List (List ℤ)) (x : List ℤ) (after : List (List ℤ)) (k : ℕ)
    → whole_total (before ++ x ∷ after) k ≡ get_or x k (pos 0) +ℤ whole_total (before ++ after) k
whole_total_more before x after k = all_more (whole_total_adds k) before x after

pub whole_total_less : (before : List (List ℤ)) (x : List ℤ) (after : List (List ℤ)) (k : ℕ)
    → whole_total (before ++ x ∷ after) k -ℤ get_or x k (pos 0) ≡ whole_total (before ++ after) k
whole_total_less before x after k =
    ap (λ (s : ℤ). s -ℤ get_or x k (pos 0))
    (whole_total_more before x after k ∙ +ℤ_comm (get_or x k (pos 0)) (whole_total (before ++ after) k))
    ∙ +ℤ-neg_ℤ_cancel (whole_total (before ++ after) k) (get_or x k (pos 0))

pub whole_total_permuted : {xs ys : List (List ℤ)} → Perm xs ys → (k : ℕ) → whole_total xs k ≡ whole_total ys k
whole_total_permuted perm k = all_permuted (whole_total_adds k) perm

module _ (n : ℕ) where
  pub length_pooled : (lists : List (List ℕ)) → length (pooled n lists) ≡ n
  unfolding pooled
  length_pooled lists = length_tab n _

  pub pooled_residues : (lists : List (List ℕ)) → Residues (pooled n lists)
  unfolding pooled
  pooled_residues lists = outputs_residues n _

  -- an entry of a pool is a total, reduced
  pooled_at : (lists : List (List ℕ)) (k : ℕ) → k < n → entry (pooled n lists) k ≡ total lists k % p
  unfolding pooled
  pooled_at lists k l = get_or_tab n _ k 0 l

  pub pooled_none : pooled n [] ≡ quiet n
  unfolding pooled total
  pooled_none = sym (is_tab 0 (quiet n) n (length-replicate n 0) (λ k l. get_or-replicate n k 0 0 l))

  pub pooled_both : (xs ys : List (List ℕ)) → pooled n (xs ++ ys) ≡ plus n (pooled n xs) (pooled n ys)
  unfolding pooled plus
  pooled_both xs ys =
      tab_ext n
      (λ k l.
      ap (λ (v : ℕ). v % p) (total_append xs ys k) ∙ Nat.add-mod (total xs k) (total ys k) p
      ∙ sym (ap₂ (λ (u v : ℕ). (u + v) % p) (pooled_at xs k l) (pooled_at ys k l)))

  pub pooled_more : (before : List (List ℕ)) (x : List ℕ) (after : List (List ℕ))
      → pooled n (before ++ x ∷ after) ≡ plus n (pooled n (before ++ after)) x
  unfolding pooled plus
  pooled_more before x after =
      tab_ext n
      (λ k l.
      ap (λ (v : ℕ). v % p) (total_more before x after k ∙ Nat.add_comm (entry x k) (total (before ++ after) k))
      ∙ sym (ap (λ (v : ℕ). (v + entry x k) % p) (pooled_at (before ++ after) k l) ∙ Nat.mod-add-mod (total (before ++ after) k) p (entry x k)))

  pub pooled_less : (before : List (List ℕ)) (x : List ℕ) (after : List (List ℕ))
      → minus n (pooled n (before ++ x ∷ after)) x ≡ pooled n (before ++ after)
  pooled_less before x after =
      ap (λ (c : List ℕ). minus n c x) (pooled_more before x after)
      ∙ minus_of_plus n (pooled n (before ++ after)) x (length_pooled (before ++ after)) (pooled_residues (before ++ after))

  pub pooled_permuted : {xs ys : List (List ℕ)} → Perm xs ys → pooled n xs ≡ pooled n ys
  unfolding pooled
  pooled_permuted perm = tab_ext n (λ k l. ap (λ (v : ℕ). v % p) (total_permuted perm k))

-- the blocks of shots are lists like any other
module _ (N S : ℕ) (w : List ℕ) where
  abbrev blocks : List ℕ → List ℕ
  blocks = blocks_of N S w

  pub length_pooled_blocks : (shots : List (List ℕ)) → length (pooled_blocks N S w shots) ≡ suc S * N
  unfolding pooled_blocks
  length_pooled_blocks shots = length_pooled (suc S * N) (map blocks shots)

  pub pooled_blocks_residues : (shots : List (List ℕ)) → Residues (pooled_blocks N S w shots)
  unfolding pooled_blocks
  pooled_blocks_residues shots = pooled_residues (suc S * N) (map blocks shots)

  pub pooled_blocks_none : pooled_blocks N S w [] ≡ quiet (suc S * N)
  unfolding pooled_blocks
  pooled_blocks_none = pooled_none (suc S * N)

  pub pooled_blocks_both : (xs ys : List (List ℕ))
      → pooled_blocks N S w (xs ++ ys) ≡ plus (suc S * N) (pooled_blocks N S w xs) (pooled_blocks N S w ys)
  unfolding pooled_blocks
  pooled_blocks_both xs ys = ap (pooled (suc S * N)) (map-append blocks xs ys) ∙ pooled_both (suc S * N) (map blocks xs) (map blocks ys)

  pub pooled_blocks_more : (before : List (List ℕ)) (x : List ℕ) (after : List (List ℕ))
      → pooled_blocks N S w (before ++ x ∷ after) ≡ plus (suc S * N) (pooled_blocks N S w (before ++ after)) (blocks_of N S w x)
  unfolding pooled_blocks
  pooled_blocks_more before x after =
      ap (pooled (suc S * N)) (map-append blocks before (x ∷ after))
      ∙ pooled_more (suc S * N) (map blocks before) (blocks x) (map blocks after)
      ∙ ap (λ (lists : List (List ℕ)). plus (suc S * N) (pooled (suc S * N) lists) (blocks x)) (sym (map-append blocks before after))

  pub pooled_blocks_less : (before : List (List ℕ)) (x : List ℕ) (after : List (List ℕ))
      → minus (suc S * N) (pooled_blocks N S w (before ++ x ∷ after)) (blocks_of N S w x) ≡ pooled_blocks N S w (before ++ after)
  pooled_blocks_less before x after =
      ap (λ (c : List ℕ). minus (suc S * N) c (blocks x)) (pooled_blocks_more before x after)
      ∙ minus_of_plus (suc S * N) (pooled_blocks N S w (before ++ after)) (blocks x) (length_pooled_blocks (before ++ after))
      (pooled_blocks_residues (before ++ after))

  pub pooled_blocks_permuted : {xs ys : List (List ℕ)} → Perm xs ys → pooled_blocks N S w xs ≡ pooled_blocks N S w ys
  unfolding pooled_blocks
  pooled_blocks_permuted perm = pooled_permuted (suc S * N) (Perm.map blocks perm)
