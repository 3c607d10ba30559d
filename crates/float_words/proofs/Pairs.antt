-- A list of floats of which each entry is like its partner: like a word's float (all_recorded), or like one float (all_one). Assumes nothing.
use mathlib.Core.Path.{◌≡◌, refl, sym, ◌∙◌}
use mathlib.Core.Bool.{Bool, true, false}
use mathlib.Core.List.{List, [], ◌∷◌, map}
use Prim.Native.Nat.{ℕ, suc, ◌+◌, ◌≤◌}
use native.Mathlib.Omega.{arith}
use lib.Dec.{T}
use lib.Ieee.{Float, nan, binary64, fits}
use lib.Ieee.Bits.{of_bits-fits}
use lib.ListN.{length, get_or, replicate}
use Rattle.std.specs.Prelude.{cond}
use Rattle.std.specs.List.{count_by, zip}
use Rattle.std.proofs.lemmas.List.Sums.{count_by-le-length, sum_by-cons}
use Rattle.std.proofs.lemmas.Slice.Zip.{length-zip}
use Rattle.float_words.specs.Words.{alike, float_of}
use Rattle.float_words.proofs.Bits.{alike_only}

held : (test : Bool) → T test → test ≡ true
held true _ = refl
held false never = absurd never

one_more : (test : Bool) (rest n : ℕ) → cond test 1 0 + rest ≡ suc n → rest ≤ n → (test ≡ true) × (rest ≡ n)
one_more true rest n all most = (refl, omega arith)
one_more false rest n all most = absurd (omega arith)

pub all_recorded : (xs : List Float) (words : List ℕ) → length xs ≡ length words → ((k : ℕ) → T (fits binary64 (get_or xs k nan))) → count_by (λ (q : Float × ℕ). alike q.0 (float_of q.1)) (zip xs words) ≡ length xs → xs ≡ map float_of words
all_recorded [] [] same fit all = refl
all_recorded [] (w ∷ words) same fit all = absurd (omega arith)
all_recorded (x ∷ xs) [] same fit all = absurd (omega arith)
all_recorded (x ∷ xs) (w ∷ words) same fit all =
    let most : count_by (λ (q : Float × ℕ). alike q.0 (float_of q.1)) (zip xs words) ≤ length xs = omega (arith, count_by-le-length (λ (q : Float × ℕ). alike q.0 (float_of q.1)) (zip xs words), length-zip xs words) in
    let parts = one_more (alike x (float_of w)) _ (length xs) (sym (sum_by-cons (λ (q : Float × ℕ). cond (alike q.0 (float_of q.1)) 1 0) (x, w) (zip xs words)) ∙ all) most in
    let first = (alike_only x (float_of w) (held _ (fit 0)) (held _ (of_bits-fits binary64 w))).0 parts.0 in
    let rest = all_recorded xs words (omega arith) (λ k. fit (suc k)) parts.1 in
    cc

pub all_one : (xs : List Float) (y : Float) → ((k : ℕ) → T (fits binary64 (get_or xs k nan))) → fits binary64 y ≡ true → count_by (λ (x : Float). alike x y) xs ≡ length xs → xs ≡ replicate (length xs) y
all_one [] y fit fit-y all = refl
all_one (x ∷ xs) y fit fit-y all =
    let most = count_by-le-length (λ (x : Float). alike x y) xs in
    let parts = one_more (alike x y) _ (length xs) (sym (sum_by-cons (λ (x : Float). cond (alike x y) 1 0) x xs) ∙ all) most in
    let first = (alike_only x y (held _ (fit 0)) fit-y).0 parts.0 in
    let rest = all_one xs y (λ k. fit (suc k)) fit-y parts.1 in
    cc
