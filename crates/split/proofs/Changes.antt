-- The library's reversal of a list is `reversed` (reverse_is). And every second entry of a list of numbers may be negated: what stands there is a number
-- (alternating_fits). Over any type of entry. Assumes nothing.
use mathlib.Core.Path.{◌≡◌, sym, ◌∙◌}
use mathlib.Core.List.{List, reverse}
use Prim.Native.Nat.{ℕ, ◌-◌, ◌<◌}
use native.Mathlib.Omega.{arith}
use lib.ListN.{length}
use lib.Seq.{ext_get_or}
use Rattle.std.proofs.lemmas.List.{get_or-reverse, length-reverse}
use Rattle.algorithms.specs.Ops.{Ops, at}
use Rattle.algorithms.specs.Lists.{reversed}
use Rattle.algorithms.proofs.Lists.{length_reversed, get_or_reversed}
use Rattle.algorithms.proofs.Alternating.{Alternating, alternating_next}
use Rattle.numbers.specs.Closed.{AllFit}

pub reverse_is : {A : Type 0} (O : Ops A) (x : List A) → reverse x ≡ reversed O x
reverse_is O x =
    ext_get_or O.none (reverse x) (reversed O x) (length-reverse x ∙ sym (length_reversed O x))
    (λ m l.
    let below : m < length x = rw length-reverse at l in
    get_or-reverse x m O.none below ∙ sym (get_or_reversed O x m (length x - 1 - m) O.none (omega arith)))

pub alternating_fits : {A : Type 0} {O : Ops A} {Fits : A → Type 0} {x out : List A} {i : ℕ} → AllFit O Fits x → Alternating O x i out → i < length out
    → Fits (at O out i)
alternating_fits numbers held below = rw (alternating_next held) (numbers.each _ (omega (arith, held.same)))
