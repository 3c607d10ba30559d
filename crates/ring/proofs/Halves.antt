-- A list of 2m entries in two halves, which follow each other: its length (halves_length), what reading a half gives (part_left, part_right), and the whole with it replaced
-- by as many entries (over_left, over_right). Over any type of entry. Assumes nothing.
use mathlib.Core.Path.{◌≡◌, refl, sym, ◌∙◌, ap}
use mathlib.Core.List.{List, [], ◌++◌, append-nil}
use Prim.Native.Nat.{ℕ, ◌*◌}
use native.Mathlib.Omega.{arith}
use lib.ListN.{length, length-append}
use Rattle.ring.specs.Part.{part, over}
use Rattle.ring.proofs.Parts.{part_middle, over_middle}

pub record Halves {A : Type 0} (m : ℕ) (a b l : List A) : Type 0 where
  pub left : length a ≡ m
  pub right : length b ≡ m
  pub is : l ≡ a ++ b

module _ {A : Type 0} {m : ℕ} {a b l : List A} (halves : Halves m a b l) where
  pub halves_length : length l ≡ 2 * m
  halves_length = ap length halves.is ∙ length-append a b ∙ omega (arith, halves.left, halves.right)

  -- the right half, with nothing after it
  last : l ≡ a ++ (b ++ [])
  last = halves.is ∙ ap (λ (t : List A). a ++ t) (sym (append-nil b))

  pub part_left : part 0 m l ≡ a
  part_left = ap (part 0 m) halves.is ∙ part_middle [] a b 0 m refl (omega (arith, halves.left))

  pub part_right : part m (2 * m) l ≡ b
  part_right = ap (part m (2 * m)) last ∙ part_middle a b [] m (2 * m) halves.left (omega (arith, halves.right))

  module _ (f : List A → List A) {out : List A} where
    pub over_left : length (f a) ≡ length a → out ≡ over f 0 m l → Halves m (f a) b out
    over_left same replaced = record {
      left = same ∙ halves.left;
      right = halves.right;
      is = replaced ∙ ap (over f 0 m) halves.is ∙ over_middle [] a b 0 m refl (omega (arith, halves.left)) f;
    }

    pub over_right : length (f b) ≡ length b → out ≡ over f m (2 * m) l → Halves m a (f b) out
    over_right same replaced = record {
      left = halves.left;
      right = same ∙ halves.right;
      is = replaced ∙ ap (over f m (2 * m)) last ∙ over_middle a b [] m (2 * m) halves.left (omega (arith, halves.right)) f
          ∙ ap (λ (t : List A). a ++ t) (append-nil (f b));
    }
