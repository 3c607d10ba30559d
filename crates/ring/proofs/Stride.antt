-- A turn at another length: the unit of length m is s units of length n = s·m. With s = 2 the length is halved and the root squared.
-- Its cos and sin at a are those of length n at s·a. Assumes nothing.
use mathlib.Core.Path.{◌≡◌, refl, sym, ◌∙◌, ap, ap₂}
use Prim.Native.Nat.{ℕ, ◌*◌}
use native.Mathlib.Omega.{arith}
use Rattle.ring.proofs.Ring as Ring
use Rattle.ring.proofs.Ring.{Ring}
use Rattle.ring.proofs.Turn.{Turn, cs, sn, forth_back}

module _ {C : Type 0} (R : Ring C) (s m n : ℕ) (e : s * m ≡ n) (W : Turn R n) where
  pub stride : Turn R m
  stride =
      let turns : s * (2 * m) ≡ 2 * n = omega (arith, ap (λ (x : ℕ). 2 * x) e) in
      record {
        half = W.half;
        root = Ring.pow R W.root s;
        inverse = Ring.pow R W.inverse s;
        half_is = W.half_is;
        inverse_is = forth_back R n W s;
        half_turn = sym (Ring.pow_mul R W.root s (2 * m)) ∙ ap (Ring.pow R W.root) turns ∙ W.half_turn;
      }

  pub stride_root : stride.root ≡ Ring.pow R W.root s
  unfolding stride
  stride_root = refl

  pub stride_half : stride.half ≡ W.half
  unfolding stride
  stride_half = refl

  pub cs_stride : (a : ℕ) → cs R m stride a ≡ cs R n W (s * a)
  unfolding stride cs
  cs_stride a =
      ap₂ (λ (x y : C). R.mul (R.add x y) W.half) (sym (Ring.pow_mul R W.root s a)) (sym (Ring.pow_mul R W.inverse s a))

  pub sn_stride : (a : ℕ) → sn R m stride a ≡ sn R n W (s * a)
  unfolding stride sn
  sn_stride a =
      ap₂ (λ (x y : C). R.mul (R.add x (R.neg y)) (R.mul W.half (Ring.pow R (Ring.pow R W.inverse s) m)))
      (sym (Ring.pow_mul R W.root s a))
      (sym (Ring.pow_mul R W.inverse s a))
      ∙ ap (λ (x : C). R.mul (R.add (Ring.pow R W.root (s * a)) (R.neg (Ring.pow R W.inverse (s * a)))) (R.mul W.half x))
      (sym (Ring.pow_mul R W.inverse s m) ∙ ap (Ring.pow R W.inverse) e)
