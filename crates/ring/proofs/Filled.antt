-- A loop that goes over a list from the front and stores the value f k at each place k: after k turns the places below k hold
-- their values and the others what they held (filled_next). With none stored it is the list d (filled_none), a store at k makes it
-- one more (filled_more), and at the end it is the table of f (filled_all). Over any type of entries, with z past the end. Assumes nothing.
use mathlib.Core.Path.{◌≡◌, refl, ◌∙◌}
use mathlib.Core.List.{List}
use Prim.Native.Nat.{ℕ, ◌+◌, ◌<◌, ◌≤◌}
use native.Mathlib.Nat as Nat
use native.Mathlib.Omega.{arith}
use borrow.Author.Count.{below_more}
use lib.ListN.{length, get_or, set, length-set}
use lib.Seq.{get_or-set_same, get_or-set_other}
use Rattle.ring.specs.Finite.{tab}
use Rattle.ring.proofs.Table.{is_tab}

pub record Filled {A : Type 0} (z : A) (f : ℕ → A) (d : List A) (k : ℕ) (out : List A) : Type 0 where
  pub within : k ≤ length d
  pub same : length out ≡ length d
  pub done : (m : ℕ) → m < k → get_or out m z ≡ f m
  pub kept : (m : ℕ) → k ≤ m → get_or out m z ≡ get_or d m z

pub filled_none : {A : Type 0} (z : A) (f : ℕ → A) (d : List A) → Filled z f d 0 d
filled_none z f d = record {
  within = omega arith;
  same = refl;
  done = λ m below. absurd (Nat.not-suc-le-zero below);
  kept = λ m above. refl;
}

module _ {A : Type 0} {z : A} {f : ℕ → A} {d : List A} {k : ℕ} {out : List A} (filled : Filled z f d k out) where
  pub filled_more : {v : A} → k < length out → v ≡ f k → Filled z f d (k + 1) (set out k v)
  filled_more {v} below is = record {
    within = omega arith;
    same = length-set out k v ∙ filled.same;
    done = below_more (λ m. get_or (set out k v) m z ≡ f m) k
        (λ m l. get_or-set_other out k m v z (λ e. omega arith) ∙ filled.done m l) (get_or-set_same out k v z below ∙ is);
    kept = λ m above. get_or-set_other out k m v z (λ e. omega arith) ∙ filled.kept m (omega arith);
  }

  -- the next place holds what it held
  pub filled_next : get_or out k z ≡ get_or d k z
  filled_next = filled.kept k (Nat.le_refl k)

  pub filled_all : length out ≤ k → out ≡ tab (length d) f
  filled_all past = is_tab z out (length d) filled.same (λ m below. filled.done m (omega arith))
