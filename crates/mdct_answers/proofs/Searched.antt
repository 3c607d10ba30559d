-- Several slices that are searched: one after the other (each_sound), and one more at the end (one_more). Assumes nothing.
use mathlib.Core.Bool.{Bool, true, false, ◌&&◌}
use mathlib.Core.List.{List, [], ◌∷◌, ◌++◌, map}
use mathlib.Core.Path.{◌≡◌, refl, sym, ◌∙◌, ap}
use Prim.Native.Nat.{ℕ}
use Rattle.std.specs.List.{list_all}
use Rattle.sums.specs.Bad.{sound_entries, sound_slices}

pub each_sound : {A : Type 0} (entries : A → List ℕ) (slices : List A) → list_all (λ slice. sound_entries (entries slice)) slices ≡ sound_slices (map entries slices)
each_sound entries [] = refl
each_sound entries (slice ∷ rest) = ap (λ (b : Bool). sound_entries (entries slice) && b) (each_sound entries rest)

grouped : (a b c : Bool) → ((a && b) && c) ≡ (a && (b && c))
grouped true b c = refl
grouped false b c = refl

last : (a : Bool) → (a && true) ≡ a
last true = refl
last false = refl

pub one_more : (slices : List (List ℕ)) (slice : List ℕ) → sound_slices (slices ++ (slice ∷ [])) ≡ (sound_slices slices && sound_entries slice)
one_more [] slice = last (sound_entries slice)
one_more (first ∷ rest) slice =
    ap (λ (b : Bool). sound_entries first && b) (one_more rest slice) ∙ sym (grouped (sound_entries first) (sound_slices rest) (sound_entries slice))
