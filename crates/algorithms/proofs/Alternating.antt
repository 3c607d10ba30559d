-- A loop that negates every second entry of x, from place 1 on: the places below i are as `alternated` has them, those from i on as x has them, and i is odd.
-- It begins with i at 1 (alternating_none), a store at i takes it to i + 2 (alternating_more), and at the end the list is `alternated` (alternating_all).
-- Over any type of entry. Assumes nothing.
use mathlib.Core.Path.{◌≡◌, refl, sym, ◌∙◌}
use mathlib.Core.List.{List}
use Prim.Native.Nat.{ℕ, ◌+◌, ◌%◌, ◌<◌, ◌≤◌}
use native.Mathlib.Nat as Nat
use native.Mathlib.Omega.{arith}
use lib.ListN.{length, set, length-set}
use lib.Seq.{get_or-set_same, get_or-set_other}
use borrow.Author.Count.{below_more}
use Rattle.ring.proofs.Table.{is_tab}
use Rattle.algorithms.specs.Ops.{Ops, at}
use Rattle.algorithms.specs.Lists.{turned, alternated}
use Rattle.algorithms.proofs.Turned.{turned_even, turned_odd}

pub record Alternating {A : Type 0} (O : Ops A) (x : List A) (i : ℕ) (out : List A) : Type 0 where
  pub odd : i % 2 ≡ 1
  pub within : i ≤ length x + 1
  pub same : length out ≡ length x
  pub done : (m : ℕ) → m < i → at O out m ≡ turned O m (at O x m)
  pub kept : (m : ℕ) → i ≤ m → at O out m ≡ at O x m

pub alternating_none : {A : Type 0} (O : Ops A) (x : List A) → Alternating O x 1 x
alternating_none O x = record {
  odd = refl;
  within = omega arith;
  same = refl;
  done = λ m below. sym (turned_even O m (at O x m) (omega arith));
  kept = λ m above. refl;
}

module _ {A : Type 0} {O : Ops A} {x : List A} {i : ℕ} {out : List A} (a : Alternating O x i out) where
  -- the next place holds what it held
  pub alternating_next : at O out i ≡ at O x i
  alternating_next = a.kept i (Nat.le_refl i)

  pub alternating_more : {v : A} → i < length out → v ≡ O.neg (at O x i) → Alternating O x (i + 2) (set out i v)
  alternating_more {v} below is = record {
    odd = omega (arith, a.odd);
    within = omega (arith, a.same);
    same = length-set out i v ∙ a.same;
    done = more;
    kept = λ m above. other m (λ e. omega arith) ∙ a.kept m (omega arith);
  }
    where
      other : (m : ℕ) → (m ≡ i → ⊥) → at O (set out i v) m ≡ at O out m
      other m differs = get_or-set_other out i m v O.none differs

      here : at O (set out i v) i ≡ turned O i (at O x i)
      here = get_or-set_same out i v O.none below ∙ is ∙ sym (turned_odd O i (at O x i) (λ e. omega (arith, a.odd)))

      after : at O (set out i v) (i + 1) ≡ turned O (i + 1) (at O x (i + 1))
      after = other (i + 1) (λ e. omega arith) ∙ a.kept (i + 1) (omega arith) ∙ sym (turned_even O (i + 1) (at O x (i + 1)) (omega (arith, a.odd)))

      more : (m : ℕ) → m < i + 2 → at O (set out i v) m ≡ turned O m (at O x m)
      more m l =
          below_more (λ m. at O (set out i v) m ≡ turned O m (at O x m)) (i + 1)
          (below_more (λ m. at O (set out i v) m ≡ turned O m (at O x m)) i (λ m l. other m (λ e. omega arith) ∙ a.done m l) here) after m (omega arith)

  pub alternating_all : length out ≤ i → out ≡ alternated O x
  unfolding alternated
  alternating_all past = is_tab O.none out (length x) a.same (λ m below. a.done m (omega (arith, a.same)))
