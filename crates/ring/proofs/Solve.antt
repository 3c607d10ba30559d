-- Ring identities by computing: both sides are written as expressions over a list of values, and a normal form decides.
-- `ring R values l r tt` proves `l ≡ r`; `ring_from R values (given k a b h ∷ ..) l r tt` proves it from equations h : a ≡ b,
-- each times a factor k: l − r is to be the sum of the k · (a − b).
-- A polynomial is a list of terms; a term is a coefficient, as a difference of two numbers, and the exponent of each value. Assumes nothing.
use mathlib.Core.Path.{◌≡◌, refl, sym, ◌∙◌, ap, ap₂, subst}
use mathlib.Core.Bool.{Bool, true, false, ◌&&◌}
use mathlib.Core.List.{List, [], ◌∷◌}
use Prim.Native.Nat.{ℕ, zero, suc, ◌+◌, ◌*◌}
use lib.Dec.{T, eqb, eqb→eq}
use lib.ListN.{get_or}
use Rattle.ring.proofs.Below.{both_left, both_right}
use Rattle.ring.proofs.Ring as Ring
use Rattle.ring.proofs.Ring.{Ring}

infixl 65 ◌:+◌
infixl 70 ◌:*◌
infixl 75 :-◌
pub data Expr : Type 0 where
  var : ℕ → Expr
  :0 : Expr
  :1 : Expr
  ◌:+◌ : Expr → Expr → Expr
  ◌:*◌ : Expr → Expr → Expr
  :-◌ : Expr → Expr

-- the coefficient plus − minus, and the exponents of the values in order
pub data Term : Type 0 where
  term : (plus minus : ℕ) → List ℕ → Term

abbrev same : List ℕ → List ℕ → Bool
same [] [] = true
same [] (n ∷ ns) = false
same (m ∷ ms) [] = false
same (m ∷ ms) (n ∷ ns) = eqb m n && same ms ns

abbrev together : List ℕ → List ℕ → List ℕ
together [] ns = ns
together (m ∷ ms) [] = m ∷ ms
together (m ∷ ms) (n ∷ ns) = (m + n) ∷ together ms ns

abbrev insert : Term → List Term → List Term
insert t [] = t ∷ []
insert (term a b m) (term c d n ∷ ts) =
    elim (same m n) [ true ↦ term (a + c) (b + d) n ∷ ts | false ↦ term c d n ∷ insert (term a b m) ts ]

abbrev plus : List Term → List Term → List Term
plus [] us = us
plus (t ∷ ts) us = insert t (plus ts us)

abbrev once : Term → List Term → List Term
once t [] = []
once (term a b m) (term c d n ∷ us) = insert (term (a * c + b * d) (a * d + b * c) (together m n)) (once (term a b m) us)

abbrev times : List Term → List Term → List Term
times [] us = []
times (t ∷ ts) us = plus (once t us) (times ts us)

abbrev opposite : List Term → List Term
opposite [] = []
opposite (term a b m ∷ ts) = term b a m ∷ opposite ts

abbrev only : ℕ → List ℕ
only zero = 1 ∷ []
only (suc i) = 0 ∷ only i

abbrev normal : Expr → List Term
normal (var i) = term 1 0 (only i) ∷ []
normal :0 = []
normal :1 = term 1 0 [] ∷ []
normal (a :+ b) = plus (normal a) (normal b)
normal (a :* b) = times (normal a) (normal b)
normal (:- a) = opposite (normal a)

abbrev vanishes : List Term → Bool
vanishes [] = true
vanishes (term a b m ∷ ts) = eqb a b && vanishes ts

same_eq : (m n : List ℕ) → T (same m n) → m ≡ n
same_eq [] [] t = refl
same_eq [] (n ∷ ns) t = absurd t
same_eq (m ∷ ms) [] t = absurd t
same_eq (m ∷ ms) (n ∷ ns) t =
    ap₂ ◌∷◌ (eqb→eq m n (both_left (eqb m n) (same ms ns) t)) (same_eq ms ns (both_right (eqb m n) (same ms ns) t))

module _ {C : Type 0} (R : Ring C) where
  open R use {nought as 𝟘, one as 𝟙, add as ◌⊕◌, mul as ◌⊗◌, neg as ⊖◌}

  infixl 65 ◌⊕◌
  infixl 70 ◌⊗◌
  infixl 75 ⊖◌
  abbrev pub eval : List C → Expr → C
  eval xs (var i) = get_or xs i 𝟘
  eval xs :0 = 𝟘
  eval xs :1 = 𝟙
  eval xs (a :+ b) = eval xs a ⊕ eval xs b
  eval xs (a :* b) = eval xs a ⊗ eval xs b
  eval xs (:- a) = ⊖ eval xs a

  coefficient : ℕ → ℕ → C
  coefficient a b = Ring.num R a ⊕ ⊖ Ring.num R b

  product : (ℕ → C) → List ℕ → C
  product x [] = 𝟙
  product x (e ∷ es) = Ring.pow R (x 0) e ⊗ product (λ i. x (suc i)) es

  value : (ℕ → C) → Term → C
  value x (term a b m) = coefficient a b ⊗ product x m

  total : (ℕ → C) → List Term → C
  total x [] = 𝟘
  total x (t ∷ ts) = value x t ⊕ total x ts

  coefficient_add : (a b c d : ℕ) → coefficient (a + c) (b + d) ≡ coefficient a b ⊕ coefficient c d
  unfolding coefficient
  coefficient_add a b c d =
      ap₂ (λ (x y : C). x ⊕ ⊖ y) (Ring.num_add R a c) (Ring.num_add R b d)
      ∙ ap (λ (y : C). (Ring.num R a ⊕ Ring.num R c) ⊕ y) (Ring.neg_sum R (Ring.num R b) (Ring.num R d))
      ∙ Ring.add_swap R (Ring.num R a) (Ring.num R c) (⊖ Ring.num R b) (⊖ Ring.num R d)

  -- (a − b)(c − d) = (ac + bd) − (ad + bc), for any four values
  differences : (a b c d : C) → (a ⊕ ⊖ b) ⊗ (c ⊕ ⊖ d) ≡ (a ⊗ c ⊕ b ⊗ d) ⊕ ⊖ (a ⊗ d ⊕ b ⊗ c)
  differences a b c d =
      R.add_mul a (⊖ b) (c ⊕ ⊖ d)
      ∙ ap₂ ◌⊕◌
      (Ring.mul_add R a c (⊖ d) ∙ ap (λ (x : C). a ⊗ c ⊕ x) (Ring.mul_neg R a d))
      (Ring.mul_add R (⊖ b) c (⊖ d) ∙ R.add_comm (⊖ b ⊗ c) (⊖ b ⊗ ⊖ d) ∙ ap₂ ◌⊕◌ (Ring.neg_mul_neg R b d) (Ring.neg_mul R b c))
      ∙ Ring.add_swap R (a ⊗ c) (⊖ (a ⊗ d)) (b ⊗ d) (⊖ (b ⊗ c))
      ∙ ap (λ (x : C). (a ⊗ c ⊕ b ⊗ d) ⊕ x) (sym (Ring.neg_sum R (a ⊗ d) (b ⊗ c)))

  coefficient_mul : (a b c d : ℕ) → coefficient (a * c + b * d) (a * d + b * c) ≡ coefficient a b ⊗ coefficient c d
  unfolding coefficient
  coefficient_mul a b c d =
      ap₂ (λ (x y : C). x ⊕ ⊖ y) (sum_of a c b d) (sum_of a d b c)
      ∙ sym (differences (Ring.num R a) (Ring.num R b) (Ring.num R c) (Ring.num R d))
    where
      sum_of : (k l m n : ℕ) → Ring.num R (k * l + m * n) ≡ Ring.num R k ⊗ Ring.num R l ⊕ Ring.num R m ⊗ Ring.num R n
      sum_of k l m n = Ring.num_add R (k * l) (m * n) ∙ ap₂ ◌⊕◌ (Ring.num_mul R k l) (Ring.num_mul R m n)

  product_together : (x : ℕ → C) (m n : List ℕ) → product x (together m n) ≡ product x m ⊗ product x n
  unfolding product
  product_together x [] n = sym (R.one_mul (product x n))
  product_together x (e ∷ es) [] = sym (Ring.mul_one R (product x (e ∷ es)))
  product_together x (e ∷ es) (f ∷ fs) =
      ap₂ ◌⊗◌ (Ring.pow_add R (x 0) e f) (product_together (λ i. x (suc i)) es fs)
      ∙ Ring.mul_swap R (Ring.pow R (x 0) e) (Ring.pow R (x 0) f) (product (λ i. x (suc i)) es) (product (λ i. x (suc i)) fs)

  value_merge : (x : ℕ → C) (a b c d : ℕ) (m n : List ℕ) → m ≡ n
      → value x (term (a + c) (b + d) n) ≡ value x (term a b m) ⊕ value x (term c d n)
  unfolding value
  value_merge x a b c d m n h =
      ap (λ (y : C). y ⊗ product x n) (coefficient_add a b c d)
      ∙ R.add_mul (coefficient a b) (coefficient c d) (product x n)
      ∙ ap (λ (k : List ℕ). coefficient a b ⊗ product x k ⊕ coefficient c d ⊗ product x n) (sym h)

  total_insert : (x : ℕ → C) (t : Term) (us : List Term) → total x (insert t us) ≡ value x t ⊕ total x us
  unfolding total
  total_insert x t [] = refl
  total_insert x (term a b m) (term c d n ∷ us) = go (same m n) refl (total_insert x (term a b m) us)
    where
      go : (s : Bool) → same m n ≡ s → total x (insert (term a b m) us) ≡ value x (term a b m) ⊕ total x us
          → total x (elim s [ true ↦ term (a + c) (b + d) n ∷ us | false ↦ term c d n ∷ insert (term a b m) us ])
          ≡ value x (term a b m) ⊕ (value x (term c d n) ⊕ total x us)
      go true e rest =
          ap (λ (y : C). y ⊕ total x us) (value_merge x a b c d m n (same_eq m n (subst T (sym e) tt)))
          ∙ R.add_assoc (value x (term a b m)) (value x (term c d n)) (total x us)
      go false e rest =
          ap (λ (y : C). value x (term c d n) ⊕ y) rest
          ∙ Ring.add_left_comm R (value x (term c d n)) (value x (term a b m)) (total x us)

  total_plus : (x : ℕ → C) (ts us : List Term) → total x (plus ts us) ≡ total x ts ⊕ total x us
  unfolding total
  total_plus x [] us = sym (R.nought_add (total x us))
  total_plus x (t ∷ ts) us =
      total_insert x t (plus ts us) ∙ ap (λ (y : C). value x t ⊕ y) (total_plus x ts us)
      ∙ sym (R.add_assoc (value x t) (total x ts) (total x us))

  value_mul : (x : ℕ → C) (a b c d : ℕ) (m n : List ℕ)
      → value x (term (a * c + b * d) (a * d + b * c) (together m n)) ≡ value x (term a b m) ⊗ value x (term c d n)
  unfolding value
  value_mul x a b c d m n =
      ap₂ ◌⊗◌ (coefficient_mul a b c d) (product_together x m n)
      ∙ Ring.mul_swap R (coefficient a b) (coefficient c d) (product x m) (product x n)

  total_once : (x : ℕ → C) (t : Term) (us : List Term) → total x (once t us) ≡ value x t ⊗ total x us
  unfolding total
  total_once x t [] = sym (Ring.mul_nought R (value x t))
  total_once x (term a b m) (term c d n ∷ us) =
      total_insert x (term (a * c + b * d) (a * d + b * c) (together m n)) (once (term a b m) us)
      ∙ ap₂ ◌⊕◌ (value_mul x a b c d m n) (total_once x (term a b m) us)
      ∙ sym (Ring.mul_add R (value x (term a b m)) (value x (term c d n)) (total x us))

  total_times : (x : ℕ → C) (ts us : List Term) → total x (times ts us) ≡ total x ts ⊗ total x us
  unfolding total
  total_times x [] us = sym (Ring.nought_mul R (total x us))
  total_times x (t ∷ ts) us =
      total_plus x (once t us) (times ts us) ∙ ap₂ ◌⊕◌ (total_once x t us) (total_times x ts us)
      ∙ sym (R.add_mul (value x t) (total x ts) (total x us))

  value_opposite : (x : ℕ → C) (a b : ℕ) (m : List ℕ) → value x (term b a m) ≡ ⊖ value x (term a b m)
  unfolding value coefficient
  value_opposite x a b m =
      ap (λ (y : C). y ⊗ product x m)
      (R.add_comm (Ring.num R b) (⊖ Ring.num R a) ∙ ap (λ (y : C). ⊖ Ring.num R a ⊕ y) (sym (Ring.neg_neg R (Ring.num R b)))
      ∙ sym (Ring.neg_sum R (Ring.num R a) (⊖ Ring.num R b)))
      ∙ Ring.neg_mul R (Ring.num R a ⊕ ⊖ Ring.num R b) (product x m)

  total_opposite : (x : ℕ → C) (ts : List Term) → total x (opposite ts) ≡ ⊖ total x ts
  unfolding total
  total_opposite x [] = sym (Ring.neg_nought R)
  total_opposite x (term a b m ∷ ts) =
      ap₂ ◌⊕◌ (value_opposite x a b m) (total_opposite x ts) ∙ sym (Ring.neg_sum R (value x (term a b m)) (total x ts))

  product_only : (x : ℕ → C) (i : ℕ) → product x (only i) ≡ x i
  unfolding product
  product_only x zero = Ring.mul_one R (Ring.pow R (x 0) 1) ∙ Ring.pow_one R (x 0)
  product_only x (suc i) =
      ap₂ ◌⊗◌ (Ring.pow_zero R (x 0)) (product_only (λ k. x (suc k)) i) ∙ R.one_mul (x (suc i))

  coefficient_one : coefficient 1 0 ≡ 𝟙
  unfolding coefficient Ring.num
  coefficient_one = ap₂ ◌⊕◌ (R.nought_add 𝟙) (Ring.neg_nought R) ∙ Ring.add_nought R 𝟙

  total_unit : (x : ℕ → C) (m : List ℕ) → total x (term 1 0 m ∷ []) ≡ product x m
  unfolding total value
  total_unit x m =
      Ring.add_nought R (coefficient 1 0 ⊗ product x m) ∙ ap (λ (y : C). y ⊗ product x m) coefficient_one
      ∙ R.one_mul (product x m)

  abbrev at : List C → ℕ → C
  at xs i = get_or xs i 𝟘

  total_normal : (xs : List C) (e : Expr) → total (at xs) (normal e) ≡ eval xs e
  total_normal xs (var i) = total_unit (at xs) (only i) ∙ product_only (at xs) i
  total_normal xs :0 = unfold total in refl
  total_normal xs :1 = total_unit (at xs) [] ∙ (unfold product in refl)
  total_normal xs (a :+ b) =
      total_plus (at xs) (normal a) (normal b) ∙ ap₂ ◌⊕◌ (total_normal xs a) (total_normal xs b)
  total_normal xs (a :* b) =
      total_times (at xs) (normal a) (normal b) ∙ ap₂ ◌⊗◌ (total_normal xs a) (total_normal xs b)
  total_normal xs (:- a) = total_opposite (at xs) (normal a) ∙ ap ⊖◌ (total_normal xs a)

  total_vanishes : (x : ℕ → C) (ts : List Term) → T (vanishes ts) → total x ts ≡ 𝟘
  unfolding total value coefficient
  total_vanishes x [] t = refl
  total_vanishes x (term a b m ∷ ts) t =
      ap₂ ◌⊕◌
      (ap (λ (k : ℕ). (Ring.num R k ⊕ ⊖ Ring.num R b) ⊗ product x m) (eqb→eq a b (both_left (eqb a b) (vanishes ts) t))
      ∙ ap (λ (y : C). y ⊗ product x m) (Ring.add_neg R (Ring.num R b)) ∙ Ring.nought_mul R (product x m))
      (total_vanishes x ts (both_right (eqb a b) (vanishes ts) t))
      ∙ R.nought_add 𝟘

  -- an equation a ≡ b, to be taken k times
  pub data Given (xs : List C) : Type 0 where
    given : (k a b : Expr) → eval xs a ≡ eval xs b → Given xs

  -- Σ k · (a − b) over the equations
  abbrev pub combined : {xs : List C} → List (Given xs) → Expr
  combined [] = :0
  combined (given k a b h ∷ gs) = k :* (a :+ :- b) :+ combined gs

  combined_nought : (xs : List C) (gs : List (Given xs)) → eval xs (combined gs) ≡ 𝟘
  combined_nought xs [] = refl
  combined_nought xs (given k a b h ∷ gs) =
      ap₂ ◌⊕◌
      (ap (λ (y : C). eval xs k ⊗ (y ⊕ ⊖ eval xs b)) h ∙ ap (λ (y : C). eval xs k ⊗ y) (Ring.add_neg R (eval xs b))
      ∙ Ring.mul_nought R (eval xs k))
      (combined_nought xs gs)
      ∙ R.nought_add 𝟘

  -- the test that is computed at each use
  abbrev pub follows : {xs : List C} → List (Given xs) → Expr → Expr → Bool
  follows gs l r = vanishes (normal ((l :+ :- r) :+ :- combined gs))

  pub ring_from : (xs : List C) (gs : List (Given xs)) (l r : Expr) → T (follows gs l r) → eval xs l ≡ eval xs r
  ring_from xs gs l r t =
      Ring.eq_of_difference R (eval xs l) (eval xs r)
      (sym (Ring.add_nought R (eval xs l ⊕ ⊖ eval xs r))
      ∙ ap (λ (y : C). (eval xs l ⊕ ⊖ eval xs r) ⊕ y)
      (sym (Ring.neg_nought R) ∙ ap ⊖◌ (sym (combined_nought xs gs)))
      ∙ sym (total_normal xs ((l :+ :- r) :+ :- combined gs))
      ∙ total_vanishes (at xs) (normal ((l :+ :- r) :+ :- combined gs)) t)

  pub ring : (xs : List C) (l r : Expr) → T (follows {xs = xs} [] l r) → eval xs l ≡ eval xs r
  ring xs l r t = ring_from xs [] l r t
