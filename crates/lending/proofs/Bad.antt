-- Laws of `first_bad` and `sound_entries`: the entries before the first bad one are below p (first_bad_below), no other place is so whose own entry is p or more
-- (first_bad_only), which is what a search from the front finds (found_is), and entries are sound exactly where all are residues (sound_residues, residues_sound), and where
-- each is below p (all_sound). Assumes nothing.
use mathlib.Core.Bool.{Bool, true, false, not, ◌&&◌}
use mathlib.Core.List.{List, [], ◌∷◌}
use mathlib.Core.Path.{◌≡◌, refl, sym, ◌∙◌, ap}
use Prim.Native.Nat.{ℕ, suc, ◌≤◌, ◌<◌}
use native.Mathlib.Omega.{arith}
use lib.Dec.{T, leb, eqb, eqb→eq, eqb_refl}
use lib.ListN.{length, get_or}
use borrow.Author.Tests.{leb-false, le-leb, lt-leb, eq-eqb, ne_eqb}
use Rattle.ring.proofs.First.{first_place_fails, first_place_only}
use Rattle.sums.specs.Residue.{p, Residues}
use Rattle.std.specs.Prelude.{fold, nat_lt, Option, Some, None, MatchOption}
use Rattle.std.specs.List.{AllWithin, HoldsAt}
use Rattle.ring.specs.Finite.{place_by, first_place}
use Rattle.sums.specs.Bad.{first_bad, found_bad, sound_entries}

pub first_bad_below : (x : List ℕ) (k : ℕ) → k < first_bad x → get_or x k 0 < p
first_bad_below x k l = leb-false p (get_or x k 0) (first_place_fails (leb p) 0 x k l)

pub first_bad_only : (x : List ℕ) (i : ℕ) → i ≤ length x → ((k : ℕ) → k < i → get_or x k 0 < p)
    → (i < length x → p ≤ get_or x i 0) → i ≡ first_bad x
first_bad_only x i within before at =
    first_place_only (leb p) 0 x i within (λ k l. lt-leb p (get_or x k 0) (before k l)) (λ l. le-leb p (get_or x i 0) (at l))

-- what a search finds from the front on
pub found_is : (x : List ℕ) (r : Option ℕ)
    → MatchOption r (AllWithin (λ y. y < p) x 0 (length x)) (λ i. (i < length x) × HoldsAt (λ y. p ≤ y) x i × AllWithin (λ y. y < p) x 0 i)
    → r ≡ found_bad x
found_is x None none =
    let e : length x ≡ first_bad x = first_bad_only x (length x) (omega arith) (λ k l. none k 0 (omega arith) l) (λ l. omega arith) in
    rw (← e, eq-eqb (length x) (length x) refl) refl
found_is x (Some i) found =
    let e : i ≡ first_bad x = first_bad_only x i (omega arith) (λ k l. found.2 k 0 (omega arith) l) (λ l. found.1 0) in
    rw (← e, ne_eqb i (length x) (omega arith)) refl

pub sound_residues : (x : List ℕ) → T (sound_entries x) → Residues x
unfolding sound_entries
sound_residues x t =
    record { below = λ k l. first_bad_below x k (omega (arith, eqb→eq (first_bad x) (length x) t)) }

pub residues_sound : (x : List ℕ) → Residues x → T (sound_entries x)
unfolding sound_entries
residues_sound x r = rw (← first_bad_only x (length x) (omega arith) r.below (λ l. omega arith)) (eqb_refl (length x))

-- one entry more at the front
next : (bad : Bool) (i n : ℕ) → eqb (place_by bad i) (suc n) ≡ (not bad && eqb i n)
next true i n = ne_eqb 0 (suc n) (omega arith)
next false i n = grind arith

sound_next : (y : ℕ) (x : List ℕ) → sound_entries (y ∷ x) ≡ (not (leb p y) && sound_entries x)
unfolding sound_entries first_place
sound_next y x = next (leb p y) (first_bad x) (length x)

below_is : (y : ℕ) → nat_lt y p ≡ not (leb p y)
below_is y = grind arith

-- whether all of several entries are sound, where b says it of those before them
pub all_sound : (b : Bool) (x : List ℕ) → fold (λ sound y. sound && nat_lt y p) b x ≡ (b && sound_entries x)
all_sound true [] = (unfold sound_entries first_place in refl)
all_sound false [] = refl
all_sound true (y ∷ x) = all_sound (nat_lt y p) x ∙ ap (λ (t : Bool). t && sound_entries x) (below_is y) ∙ sym (sound_next y x)
all_sound false (y ∷ x) = all_sound false x
