-- Turns over any commutative ring: angles are whole numbers a, in units of 1/(4n) of a turn, and come from a root w
-- with w^(2n) = −1, its inverse, and one half. cs a = (w^a + w^−a)/2, sn a = (w^a − w^−a)/(2j) with j = w^n.
-- There is no negative angle: an angle b with a + b a number of half turns stands for −a.
-- Places: cs_zero, sn_zero, *-at-quarter, *-odd-quarters. Shifts: *-turns, *-quarter-more. Reflections: *-mirror, *-quarter, cs_quarters_less.
-- Sums of angles: *-add, *-sub, square_sum, *-product. Another length: `Stride`. Assumes nothing.
use mathlib.Core.Path.{◌≡◌, sym, ◌∙◌, ap, ap₂}
use mathlib.Core.List.{List, [], ◌∷◌}
use Prim.Native.Nat.{ℕ, ◌+◌, ◌*◌}
use native.Mathlib.Nat as Nat
use native.Mathlib.Omega.{arith}
use Rattle.ring.proofs.Ring as Ring
use Rattle.ring.proofs.Ring.{Ring}
use Rattle.ring.proofs.Sign.{sign, sign_odd, sign_square}
use Rattle.ring.proofs.Solve.{ring, ring_from, Expr, var, :0, :1, ◌:+◌, ◌:*◌, :-◌, given}

pub record Turn {C : Type 0} (R : Ring C) (n : ℕ) : Type 0 where
  pub half : C
  pub root : C
  pub inverse : C
  pub half_is : R.add half half ≡ R.one
  pub inverse_is : R.mul root inverse ≡ R.one
  pub half_turn : Ring.pow R root (2 * n) ≡ R.neg R.one

-- the values in the identities below: w^a, w^−a, w^b, w^−b, 1/2, 1/j
abbrev ea : Expr
ea = var 0

abbrev da : Expr
da = var 1

abbrev eb : Expr
eb = var 2

abbrev db : Expr
db = var 3

abbrev h : Expr
h = var 4

abbrev k : Expr
k = var 5

-- cos and sin of an angle whose two powers are e and d
abbrev cos_of_is : Expr → Expr → Expr
cos_of_is e d = (e :+ d) :* h

abbrev sin_of_is : Expr → Expr → Expr
sin_of_is e d = (e :+ :- d) :* (h :* k)

module _ {C : Type 0} (R : Ring C) (n : ℕ) (W : Turn R n) where
  open R use {nought as 𝟘, one as 𝟙, add as ◌⊕◌, mul as ◌⊗◌, neg as ⊖◌}

  infixl 65 ◌⊕◌
  infixl 70 ◌⊗◌
  infixl 75 ⊖◌
  -- w^a and w^−a
  abbrev pub forth : ℕ → C
  forth a = Ring.pow R W.root a

  abbrev pub back : ℕ → C
  back a = Ring.pow R W.inverse a

  unfoldable pub cs : ℕ → C
  cs a = (forth a ⊕ back a) ⊗ W.half

  unfoldable pub sn : ℕ → C
  sn a = (forth a ⊕ ⊖ back a) ⊗ (W.half ⊗ back n)

  pub forth_back : (a : ℕ) → forth a ⊗ back a ≡ 𝟙
  forth_back a =
      sym (Ring.pow_of_product R W.root W.inverse a) ∙ ap (λ (x : C). Ring.pow R x a) W.inverse_is ∙ Ring.pow_of_one R a

  -- a number that is its own negative is 0, since there is a half
  pub own_negative : (x : C) → x ≡ ⊖ x → x ≡ 𝟘
  own_negative x e =
      ring_from R (x ∷ W.half ∷ [])
      (given (:- var 0) (var 1 :+ var 1) :1 W.half_is ∷ given (var 1) (var 0) (:- var 0) e ∷ [])
      (var 0)
      :0
      tt

  -- half of twice a number
  pub half_of_twice : (v y : C) → v ≡ y ⊕ y → v ⊗ W.half ≡ y
  half_of_twice v y e =
      ap (λ (z : C). z ⊗ W.half) e
      ∙ ring_from R (y ∷ W.half ∷ []) (given (var 0) (var 1 :+ var 1) :1 W.half_is ∷ []) ((var 0 :+ var 0) :* var 1) (var 0) tt

  -- what undoes w^a is w^−a
  pub back_only : (a : ℕ) (x : C) → forth a ⊗ x ≡ 𝟙 → x ≡ back a
  back_only a x h =
      ring_from R (forth a ∷ back a ∷ x ∷ [])
      (given (var 1) (var 0 :* var 2) :1 h ∷ given (:- var 2) (var 0 :* var 1) :1 (forth_back a) ∷ [])
      (var 2) (var 1) tt

  -- half turns
  pub forth_turns : (m : ℕ) → forth (2 * n * m) ≡ sign R m
  forth_turns m = Ring.pow_mul R W.root (2 * n) m ∙ ap (λ (x : C). Ring.pow R x m) W.half_turn

  back_turns : (m : ℕ) → back (2 * n * m) ≡ sign R m
  back_turns m =
      sym (back_only (2 * n * m) (sign R m) (ap (λ (x : C). x ⊗ sign R m) (forth_turns m) ∙ sign_square R m))

  -- j = w^n, j² = −1, 1/j = −j
  quarter_square : forth n ⊗ forth n ≡ ⊖ 𝟙
  quarter_square =
      let h : n + n ≡ 2 * n = omega arith in
      sym (Ring.pow_add R W.root n n) ∙ ap forth h ∙ W.half_turn

  quarter_back : back n ≡ ⊖ forth n
  quarter_back =
      sym (back_only n (⊖ forth n)
      (ring_from R (forth n ∷ []) (given (:- :1) (var 0 :* var 0) (:- :1) quarter_square ∷ []) (var 0 :* :- var 0) :1 tt))

  quarter_back_square : back n ⊗ back n ≡ ⊖ 𝟙
  quarter_back_square = ap₂ ◌⊗◌ quarter_back quarter_back ∙ Ring.neg_mul_neg R (forth n) (forth n) ∙ quarter_square

  abbrev values : ℕ → ℕ → List C
  values a b = forth a ∷ back a ∷ forth b ∷ back b ∷ W.half ∷ back n ∷ []

  cs_of_sum : (a b : ℕ) → cs (a + b) ≡ (forth a ⊗ forth b ⊕ back a ⊗ back b) ⊗ W.half
  unfolding cs
  cs_of_sum a b = ap₂ (λ (x y : C). (x ⊕ y) ⊗ W.half) (Ring.pow_add R W.root a b) (Ring.pow_add R W.inverse a b)

  sn_of_sum : (a b : ℕ) → sn (a + b) ≡ (forth a ⊗ forth b ⊕ ⊖ (back a ⊗ back b)) ⊗ (W.half ⊗ back n)
  unfolding sn
  sn_of_sum a b =
      ap₂ (λ (x y : C). (x ⊕ ⊖ y) ⊗ (W.half ⊗ back n)) (Ring.pow_add R W.root a b) (Ring.pow_add R W.inverse a b)

  -- angles added
  pub cs_add : (a b : ℕ) → cs (a + b) ≡ cs a ⊗ cs b ⊕ ⊖ (sn a ⊗ sn b)
  unfolding cs sn
  cs_add a b =
      cs_of_sum a b
      ∙ ring_from R (values a b)
      (given (h :* h :* ((ea :+ :- da) :* (eb :+ :- db))) (k :* k) (:- :1) quarter_back_square
      ∷ given (:- h :* (ea :* eb :+ da :* db)) (h :+ h) :1 W.half_is ∷ [])
      (cos_of_is (ea :* eb) (da :* db))
      (cos_of_is ea da :* cos_of_is eb db :+ :- (sin_of_is ea da :* sin_of_is eb db))
      tt

  pub sn_add : (a b : ℕ) → sn (a + b) ≡ sn a ⊗ cs b ⊕ cs a ⊗ sn b
  unfolding cs sn
  sn_add a b =
      sn_of_sum a b
      ∙ ring_from R (values a b) (given (:- h :* k :* (ea :* eb :+ :- (da :* db))) (h :+ h) :1 W.half_is ∷ [])
      (sin_of_is (ea :* eb) (da :* db))
      (sin_of_is ea da :* cos_of_is eb db :+ cos_of_is ea da :* sin_of_is eb db)
      tt

  pub square_sum : (a : ℕ) → cs a ⊗ cs a ⊕ sn a ⊗ sn a ≡ 𝟙
  unfolding cs sn
  square_sum a =
      ring_from R (values a a)
      (given (h :* h :* ((ea :+ :- da) :* (ea :+ :- da))) (k :* k) (:- :1) quarter_back_square
      ∷ given ((h :+ h) :* (h :+ h)) (ea :* da) :1 (forth_back a)
      ∷ given (h :+ h :+ :1) (h :+ h) :1 W.half_is ∷ [])
      (cos_of_is ea da :* cos_of_is ea da :+ sin_of_is ea da :* sin_of_is ea da)
      :1
      tt

  -- angles subtracted: d is b less than d + b
  pub cs_sub : (d b : ℕ) → cs (d + b) ⊗ cs b ⊕ sn (d + b) ⊗ sn b ≡ cs d
  cs_sub d b =
      ap₂ (λ (x y : C). x ⊗ cs b ⊕ y ⊗ sn b) (cs_add d b) (sn_add d b)
      ∙ ring_from R (cs d ∷ sn d ∷ cs b ∷ sn b ∷ [])
      (given (var 0) (var 2 :* var 2 :+ var 3 :* var 3) :1 (square_sum b) ∷ [])
      ((var 0 :* var 2 :+ :- (var 1 :* var 3)) :* var 2 :+ (var 1 :* var 2 :+ var 0 :* var 3) :* var 3)
      (var 0)
      tt

  pub sn_sub : (d b : ℕ) → sn (d + b) ⊗ cs b ⊕ ⊖ (cs (d + b) ⊗ sn b) ≡ sn d
  sn_sub d b =
      ap₂ (λ (x y : C). y ⊗ cs b ⊕ ⊖ (x ⊗ sn b)) (cs_add d b) (sn_add d b)
      ∙ ring_from R (cs d ∷ sn d ∷ cs b ∷ sn b ∷ [])
      (given (var 1) (var 2 :* var 2 :+ var 3 :* var 3) :1 (square_sum b) ∷ [])
      ((var 1 :* var 2 :+ var 0 :* var 3) :* var 2 :+ :- ((var 0 :* var 2 :+ :- (var 1 :* var 3)) :* var 3))
      (var 1)
      tt

  -- products as sums, at the angles a + b and d = a − b
  pub cs_product : (a b d : ℕ) → d + b ≡ a → cs (a + b) ⊕ cs d ≡ cs a ⊗ cs b ⊕ cs a ⊗ cs b
  cs_product a b d e =
      ap₂ ◌⊕◌ (cs_add a b) (sym (cs_sub d b) ∙ ap (λ (x : ℕ). cs x ⊗ cs b ⊕ sn x ⊗ sn b) e)
      ∙ ring R (cs a ⊗ cs b ∷ sn a ⊗ sn b ∷ []) (var 0 :+ :- var 1 :+ (var 0 :+ var 1)) (var 0 :+ var 0) tt

  pub sn_product : (a b d : ℕ) → d + b ≡ a → cs d ⊕ ⊖ cs (a + b) ≡ sn a ⊗ sn b ⊕ sn a ⊗ sn b
  sn_product a b d e =
      ap₂ (λ (x y : C). y ⊕ ⊖ x) (cs_add a b) (sym (cs_sub d b) ∙ ap (λ (x : ℕ). cs x ⊗ cs b ⊕ sn x ⊗ sn b) e)
      ∙ ring R (cs a ⊗ cs b ∷ sn a ⊗ sn b ∷ []) (var 0 :+ var 1 :+ :- (var 0 :+ :- var 1)) (var 1 :+ var 1) tt

  -- the angle 0 and the quarter
  pub cs_zero : cs 0 ≡ 𝟙
  unfolding cs
  cs_zero =
      ap₂ (λ (x y : C). (x ⊕ y) ⊗ W.half) (Ring.pow_zero R W.root) (Ring.pow_zero R W.inverse)
      ∙ ring_from R (W.half ∷ []) (given :1 (var 0 :+ var 0) :1 W.half_is ∷ []) ((:1 :+ :1) :* var 0) :1 tt

  pub sn_zero : sn 0 ≡ 𝟘
  unfolding sn
  sn_zero =
      ap₂ (λ (x y : C). (x ⊕ ⊖ y) ⊗ (W.half ⊗ back n)) (Ring.pow_zero R W.root) (Ring.pow_zero R W.inverse)
      ∙ ring R (W.half ⊗ back n ∷ []) ((:1 :+ :- :1) :* var 0) :0 tt

  pub cs_at_quarter : cs n ≡ 𝟘
  unfolding cs
  cs_at_quarter =
      ap (λ (x : C). (forth n ⊕ x) ⊗ W.half) quarter_back
      ∙ ring R (forth n ∷ W.half ∷ []) ((var 0 :+ :- var 0) :* var 1) :0 tt

  pub sn_at_quarter : sn n ≡ 𝟙
  unfolding sn
  sn_at_quarter =
      ring_from R (forth n ∷ back n ∷ W.half ∷ [])
      (given (var 2) (var 0 :* var 1) :1 (forth_back n) ∷ given (:- var 2) (var 1 :* var 1) (:- :1) quarter_back_square
      ∷ given :1 (var 2 :+ var 2) :1 W.half_is ∷ [])
      ((var 0 :+ :- var 1) :* (var 2 :* var 1))
      :1
      tt

  -- half turns more: the sign changes with each
  pub cs_turns : (a m : ℕ) → cs (a + 2 * n * m) ≡ sign R m ⊗ cs a
  unfolding cs
  cs_turns a m =
      cs_of_sum a (2 * n * m)
      ∙ ap₂ (λ (x y : C). (forth a ⊗ x ⊕ back a ⊗ y) ⊗ W.half) (forth_turns m) (back_turns m)
      ∙ ring R (forth a ∷ back a ∷ W.half ∷ sign R m ∷ [])
      ((var 0 :* var 3 :+ var 1 :* var 3) :* var 2)
      (var 3 :* ((var 0 :+ var 1) :* var 2))
      tt

  pub sn_turns : (a m : ℕ) → sn (a + 2 * n * m) ≡ sign R m ⊗ sn a
  unfolding sn
  sn_turns a m =
      sn_of_sum a (2 * n * m)
      ∙ ap₂ (λ (x y : C). (forth a ⊗ x ⊕ ⊖ (back a ⊗ y)) ⊗ (W.half ⊗ back n)) (forth_turns m) (back_turns m)
      ∙ ring R (forth a ∷ back a ∷ W.half ⊗ back n ∷ sign R m ∷ [])
      ((var 0 :* var 3 :+ :- (var 1 :* var 3)) :* var 2)
      (var 3 :* ((var 0 :+ :- var 1) :* var 2))
      tt

  -- an odd number of quarters
  pub cs_odd_quarters : (t : ℕ) → cs (n * (2 * t + 1)) ≡ 𝟘
  cs_odd_quarters t =
      let e : n * (2 * t + 1) ≡ n + 2 * n * t = omega arith in
      ap cs e ∙ cs_turns n t ∙ ap (λ (x : C). sign R t ⊗ x) cs_at_quarter ∙ Ring.mul_nought R (sign R t)

  pub sn_odd_quarters : (t : ℕ) → sn (n * (2 * t + 1)) ≡ sign R t
  sn_odd_quarters t =
      let e : n * (2 * t + 1) ≡ n + 2 * n * t = omega arith in
      ap sn e ∙ sn_turns n t ∙ ap (λ (x : C). sign R t ⊗ x) sn_at_quarter ∙ Ring.mul_one R (sign R t)

  at_turns : (a b m : ℕ) → a + b ≡ 2 * n * m → (f : ℕ → C) (z : C) → f 0 ≡ z
      → ((x y : ℕ) → f (x + 2 * n * y) ≡ sign R y ⊗ f x) → f (b + a) ≡ sign R m ⊗ z
  at_turns a b m e f z start turns =
      ap f (Nat.add_comm b a ∙ e ∙ sym (Nat.zero-add (2 * n * m))) ∙ turns 0 m ∙ ap (λ (x : C). sign R m ⊗ x) start

  -- b is a number m of half turns less a
  pub cs_mirror : (a b m : ℕ) → a + b ≡ 2 * n * m → cs b ≡ sign R m ⊗ cs a
  cs_mirror a b m e =
      sym (cs_sub b a)
      ∙ ap₂ (λ (x y : C). x ⊗ cs a ⊕ y ⊗ sn a) (at_turns a b m e cs 𝟙 cs_zero cs_turns) (at_turns a b m e sn 𝟘 sn_zero sn_turns)
      ∙ ring R (sign R m ∷ cs a ∷ sn a ∷ []) (var 0 :* :1 :* var 1 :+ var 0 :* :0 :* var 2) (var 0 :* var 1) tt

  pub sn_mirror : (a b m : ℕ) → a + b ≡ 2 * n * m → sn b ≡ ⊖ (sign R m ⊗ sn a)
  sn_mirror a b m e =
      sym (sn_sub b a)
      ∙ ap₂ (λ (x y : C). y ⊗ cs a ⊕ ⊖ (x ⊗ sn a)) (at_turns a b m e cs 𝟙 cs_zero cs_turns) (at_turns a b m e sn 𝟘 sn_zero sn_turns)
      ∙ ring R (sign R m ∷ cs a ∷ sn a ∷ []) (var 0 :* :0 :* var 1 :+ :- (var 0 :* :1 :* var 2)) (:- (var 0 :* var 2)) tt

  -- a quarter more
  pub cs_quarter_more : (a : ℕ) → cs (a + n) ≡ ⊖ sn a
  cs_quarter_more a =
      cs_add a n ∙ ap₂ (λ (x y : C). cs a ⊗ x ⊕ ⊖ (sn a ⊗ y)) cs_at_quarter sn_at_quarter
      ∙ ring R (cs a ∷ sn a ∷ []) (var 0 :* :0 :+ :- (var 1 :* :1)) (:- var 1) tt

  pub sn_quarter_more : (a : ℕ) → sn (a + n) ≡ cs a
  sn_quarter_more a =
      sn_add a n ∙ ap₂ (λ (x y : C). sn a ⊗ x ⊕ cs a ⊗ y) cs_at_quarter sn_at_quarter
      ∙ ring R (cs a ∷ sn a ∷ []) (var 1 :* :0 :+ var 0 :* :1) (var 0) tt

  -- b is a quarter less a
  pub cs_quarter : (a b : ℕ) → a + b ≡ n → cs b ≡ sn a
  cs_quarter a b e =
      sym (cs_sub b a) ∙ ap (λ (x : ℕ). cs x ⊗ cs a ⊕ sn x ⊗ sn a) (Nat.add_comm b a ∙ e)
      ∙ ap₂ (λ (x y : C). x ⊗ cs a ⊕ y ⊗ sn a) cs_at_quarter sn_at_quarter
      ∙ ring R (cs a ∷ sn a ∷ []) (:0 :* var 0 :+ :1 :* var 1) (var 1) tt

  pub sn_quarter : (a b : ℕ) → a + b ≡ n → sn b ≡ cs a
  sn_quarter a b e = sym (cs_quarter b a (Nat.add_comm b a ∙ e))

  -- b is an odd number of quarters less a
  pub cs_quarters_less : (a b t : ℕ) → a + b ≡ n * (2 * t + 1) → cs b ≡ sign R t ⊗ sn a
  cs_quarters_less a b t e =
      sym (cs_sub b a) ∙ ap (λ (x : ℕ). cs x ⊗ cs a ⊕ sn x ⊗ sn a) (Nat.add_comm b a ∙ e)
      ∙ ap₂ (λ (x y : C). x ⊗ cs a ⊕ y ⊗ sn a) (cs_odd_quarters t) (sn_odd_quarters t)
      ∙ ring R (cs a ∷ sn a ∷ sign R t ∷ []) (:0 :* var 0 :+ var 2 :* var 1) (var 2 :* var 1) tt

  -- the sine is a cosine, three quarters on
  pub sn_is_cs : (a : ℕ) → sn a ≡ cs (a + 3 * n)
  sn_is_cs a =
      let h : a + 3 * n ≡ a + n + 2 * n * 1 = omega arith in
      sym (ap cs h ∙ cs_turns (a + n) 1 ∙ ap₂ ◌⊗◌ (sign_odd R 0) (cs_quarter_more a) ∙ Ring.neg_mul_neg R 𝟙 (sn a) ∙ R.one_mul (sn a))
