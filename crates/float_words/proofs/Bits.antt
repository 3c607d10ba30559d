-- Floats by their bits: a NaN's pattern is read as NaN (nan_of), and two floats are alike exactly where they are one float (alike_only). Assumes nothing.
use mathlib.Core.Path.{◌≡◌, refl, sym, ap, ◌∙◌, subst}
use mathlib.Core.Bool.{true}
use mathlib.Core.Logic.{◌↔◌}
use Prim.Native.Nat.{ℕ}
use borrow.Author.Tests.{eqb-true, eq-eqb}
use lib.Dec.{T}
use lib.Ieee.{Float, nan, inf, fin, binary64, is_nan, fits, nan_bits, of_bits, to_bits}
use lib.Ieee.Bits.{nan_bits_is, of_bits-to_bits}
use Rattle.float_words.specs.Words.{alike}

is_nan_only : (x : Float) → is_nan x ≡ true → x ≡ nan
unfolding is_nan
is_nan_only nan is = refl
is_nan_only (inf s) is = absurd (subst T (sym is) tt)
is_nan_only (fin s m e) is = absurd (subst T (sym is) tt)

pub nan_of : (word : ℕ) → nan_bits binary64 word ≡ true → nan ≡ of_bits binary64 word
nan_of word is = sym (is_nan_only (of_bits binary64 word) (sym (nan_bits_is binary64 word) ∙ is))

read_back : (x : Float) → fits binary64 x ≡ true → of_bits binary64 (to_bits binary64 x) ≡ x
read_back x held = of_bits-to_bits binary64 x (subst T (sym held) tt)

bits_only : (a b : Float) → fits binary64 a ≡ true → fits binary64 b ≡ true → to_bits binary64 a ≡ to_bits binary64 b → a ≡ b
bits_only a b held-a held-b same = sym (read_back a held-a) ∙ ap (of_bits binary64) same ∙ read_back b held-b

pub alike_only : (a b : Float) → fits binary64 a ≡ true → fits binary64 b ≡ true → (alike a b ≡ true) ↔ (a ≡ b)
unfolding is_nan alike
alike_only nan nan held-a held-b = (λ _. refl, λ _. refl)
alike_only nan (inf s) held-a held-b = (λ never. cc, λ never. cc)
alike_only nan (fin s m e) held-a held-b = (λ never. cc, λ never. cc)
alike_only (inf s) nan held-a held-b = (λ never. cc, λ never. cc)
alike_only (fin s m e) nan held-a held-b = (λ never. cc, λ never. cc)
alike_only (inf s) (inf t) held-a held-b = (λ same. bits_only _ _ held-a held-b (eqb-true _ _ same), λ equal. eq-eqb _ _ (ap (to_bits binary64) equal))
alike_only (inf s) (fin t m e) held-a held-b = (λ same. bits_only _ _ held-a held-b (eqb-true _ _ same), λ equal. eq-eqb _ _ (ap (to_bits binary64) equal))
alike_only (fin s m e) (inf t) held-a held-b = (λ same. bits_only _ _ held-a held-b (eqb-true _ _ same), λ equal. eq-eqb _ _ (ap (to_bits binary64) equal))
alike_only (fin s m e) (fin t n f) held-a held-b = (λ same. bits_only _ _ held-a held-b (eqb-true _ _ same), λ equal. eq-eqb _ _ (ap (to_bits binary64) equal))
