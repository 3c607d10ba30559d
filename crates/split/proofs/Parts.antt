-- A part of a slice, of n entries, can be transformed in place by whatever serves n, with as many entries of another slice as scratch (part_ready), and a transform of more
-- than 2 entries takes a step (step_ready). The front of three parts that follow each other (front_is), and the whole after it was lent (lent_front, front_kept). Over any numbers. Assumes nothing.
use mathlib.Core.Path.{◌≡◌, sym, ◌∙◌, ap, ap₂}
use mathlib.Core.List.{List, ◌++◌}
use Prim.Native.Nat.{ℕ, ◌*◌, ◌/◌, ◌<◌}
use native.Mathlib.Omega.{arith}
use lib.ListN.{length, take, drop, length-append, length-take, length-drop}
use lib.Seq.{take_at, drop_at}
use Rattle.ring.proofs.Parts.{Parts}
use Rattle.ring.proofs.Powers.{quarters_whole}
use Rattle.algorithms.specs.Ops.{Ops, Twiddles}
use Rattle.numbers.specs.Closed.{AllFit}
use Rattle.split.specs.Served.{Served}
use Rattle.split.specs.Ready.{InPlace, Step}

module _ {A W : Type 0} {O : Ops A} {Fits : A → Type 0} {serves : W → ℕ → Type 0} where
  -- m is what the part holds, and s the scratch
  pub part_ready : {w : W} {n : ℕ} {m s : List A} → serves w n → AllFit O Fits m → length m ≡ n → length s ≡ n → InPlace O Fits serves w m s
  part_ready served numbers size scratch = record { served = rw size served; numbers = numbers; same = scratch ∙ sym size }

  pub step_ready : {turn : W → Twiddles A} {w : W} {x s : List A} → Served Fits turn serves → InPlace O Fits serves w x s → 2 < length x
      → Step O Fits serves w (length x / 4) x s
  step_ready {w = w} {x = x} law ready large =
      let power = law.power w (length x) ready.served in
      let whole : 4 * (length x / 4) ≡ length x = quarters_whole power.exponent (length x) power.power large in
      record {
        served = rw whole ready.served;
        some = omega arith;
        numbers = ready.numbers;
        from_length = sym whole;
        to_length = ready.same ∙ sym whole;
      }

-- the front of a list in three parts, and the whole after the front was lent and came back as what a function makes of it
module _ {A : Type 0} {q : ℕ} {h c d l : List A} (parts : Parts q h c d l) where
  pub front_is : take (2 * q) l ≡ h
  front_is = ap (take (2 * q)) parts.is ∙ take_at h (c ++ d) (2 * q) parts.half

  pub lent_front : (f : List A → List A) {last : List A} → length (f h) ≡ length h → last ≡ f (take (2 * q) l) → Parts q (f h) c d (last ++ drop (2 * q) l)
  lent_front f {last} same made = record {
    half = same ∙ parts.half;
    third_quarter = parts.third_quarter;
    fourth_quarter = parts.fourth_quarter;
    is = ap₂ (λ (a b : List A). a ++ b) (made ∙ ap f front_is) (ap (drop (2 * q)) parts.is ∙ drop_at h (c ++ d) (2 * q) parts.half);
  }

-- a list whose front was lent, and came back as long, is as long as before
pub front_kept : {A : Type 0} (n : ℕ) (x last : List A) → length last ≡ length (take n x) → length (last ++ drop n x) ≡ length x
front_kept n x last kept = simp (length-append, length-drop) (omega (arith, simp length-take at kept))
