-- Commutative rings: the record, what follows at once, numerals and powers.
-- A law's name is its statement. `num n` is 1 + .. + 1, n times; `pow x n` is x · .. · x, n times. Assumes nothing.
use mathlib.Core.Path.{◌≡◌, refl, sym, ◌∙◌, ap, ap₂}
use Prim.Native.Nat.{ℕ, zero, suc, ◌+◌, ◌*◌}
use native.Mathlib.Nat as Nat

pub record Ring (C : Type 0) : Type 0 where
  pub nought : C
  pub one : C
  pub add : C → C → C
  pub mul : C → C → C
  pub neg : C → C
  pub add_comm : (a b : C) → add a b ≡ add b a
  pub add_assoc : (a b c : C) → add (add a b) c ≡ add a (add b c)
  pub nought_add : (a : C) → add nought a ≡ a
  pub neg_add : (a : C) → add (neg a) a ≡ nought
  pub mul_comm : (a b : C) → mul a b ≡ mul b a
  pub mul_assoc : (a b c : C) → mul (mul a b) c ≡ mul a (mul b c)
  pub one_mul : (a : C) → mul one a ≡ a
  pub add_mul : (a b c : C) → mul (add a b) c ≡ add (mul a c) (mul b c)

module _ {C : Type 0} (R : Ring C) where
  open R use {nought as 𝟘, one as 𝟙, add as ◌⊕◌, mul as ◌⊗◌, neg as ⊖◌}

  infixl 65 ◌⊕◌
  infixl 70 ◌⊗◌
  infixl 75 ⊖◌
  pub add_nought : (a : C) → a ⊕ 𝟘 ≡ a
  add_nought a = R.add_comm a 𝟘 ∙ R.nought_add a

  pub add_neg : (a : C) → a ⊕ ⊖ a ≡ 𝟘
  add_neg a = R.add_comm a (⊖ a) ∙ R.neg_add a

  pub add_left_comm : (a b c : C) → a ⊕ (b ⊕ c) ≡ b ⊕ (a ⊕ c)
  add_left_comm a b c = sym (R.add_assoc a b c) ∙ ap (λ (x : C). x ⊕ c) (R.add_comm a b) ∙ R.add_assoc b a c

  pub add_swap : (a b c d : C) → (a ⊕ b) ⊕ (c ⊕ d) ≡ (a ⊕ c) ⊕ (b ⊕ d)
  add_swap a b c d = R.add_assoc a b (c ⊕ d) ∙ ap (λ (x : C). a ⊕ x) (add_left_comm b c d) ∙ sym (R.add_assoc a c (b ⊕ d))

  pub add_cancel : (a b c : C) → a ⊕ b ≡ a ⊕ c → b ≡ c
  add_cancel a b c h = sym (back b) ∙ ap (λ (x : C). ⊖ a ⊕ x) h ∙ back c
    where
      back : (x : C) → ⊖ a ⊕ (a ⊕ x) ≡ x
      back x = sym (R.add_assoc (⊖ a) a x) ∙ ap (λ (y : C). y ⊕ x) (R.neg_add a) ∙ R.nought_add x

  pub mul_one : (a : C) → a ⊗ 𝟙 ≡ a
  mul_one a = R.mul_comm a 𝟙 ∙ R.one_mul a

  pub mul_add : (a b c : C) → a ⊗ (b ⊕ c) ≡ a ⊗ b ⊕ a ⊗ c
  mul_add a b c = R.mul_comm a (b ⊕ c) ∙ R.add_mul b c a ∙ ap₂ ◌⊕◌ (R.mul_comm b a) (R.mul_comm c a)

  pub nought_mul : (a : C) → 𝟘 ⊗ a ≡ 𝟘
  nought_mul a =
      add_cancel (𝟘 ⊗ a) (𝟘 ⊗ a) 𝟘
      (sym (R.add_mul 𝟘 𝟘 a) ∙ ap (λ (x : C). x ⊗ a) (R.nought_add 𝟘) ∙ sym (add_nought (𝟘 ⊗ a)))

  pub mul_nought : (a : C) → a ⊗ 𝟘 ≡ 𝟘
  mul_nought a = R.mul_comm a 𝟘 ∙ nought_mul a

  -- what cancels a is its negative
  pub neg_only : (a b : C) → a ⊕ b ≡ 𝟘 → b ≡ ⊖ a
  neg_only a b h = add_cancel a b (⊖ a) (h ∙ sym (add_neg a))

  pub neg_nought : ⊖ 𝟘 ≡ 𝟘
  neg_nought = sym (neg_only 𝟘 𝟘 (R.nought_add 𝟘))

  pub neg_neg : (a : C) → ⊖ (⊖ a) ≡ a
  neg_neg a = sym (neg_only (⊖ a) a (R.neg_add a))

  pub neg_sum : (a b : C) → ⊖ (a ⊕ b) ≡ ⊖ a ⊕ ⊖ b
  neg_sum a b =
      sym (neg_only (a ⊕ b) (⊖ a ⊕ ⊖ b)
      (add_swap a b (⊖ a) (⊖ b) ∙ ap₂ ◌⊕◌ (add_neg a) (add_neg b) ∙ R.nought_add 𝟘))

  pub neg_mul : (a b : C) → ⊖ a ⊗ b ≡ ⊖ (a ⊗ b)
  neg_mul a b =
      neg_only (a ⊗ b) (⊖ a ⊗ b) (sym (R.add_mul a (⊖ a) b) ∙ ap (λ (x : C). x ⊗ b) (add_neg a) ∙ nought_mul b)

  pub mul_neg : (a b : C) → a ⊗ ⊖ b ≡ ⊖ (a ⊗ b)
  mul_neg a b = R.mul_comm a (⊖ b) ∙ neg_mul b a ∙ ap ⊖◌ (R.mul_comm b a)

  pub neg_mul_neg : (a b : C) → ⊖ a ⊗ ⊖ b ≡ a ⊗ b
  neg_mul_neg a b = neg_mul a (⊖ b) ∙ ap ⊖◌ (mul_neg a b) ∙ neg_neg (a ⊗ b)

  pub eq_of_difference : (a b : C) → a ⊕ ⊖ b ≡ 𝟘 → a ≡ b
  eq_of_difference a b h =
      sym (neg_neg a) ∙ ap ⊖◌ (sym (neg_only a (⊖ b) h)) ∙ neg_neg b

  pub mul_left_comm : (a b c : C) → a ⊗ (b ⊗ c) ≡ b ⊗ (a ⊗ c)
  mul_left_comm a b c = sym (R.mul_assoc a b c) ∙ ap (λ (x : C). x ⊗ c) (R.mul_comm a b) ∙ R.mul_assoc b a c

  pub mul_swap : (a b c d : C) → (a ⊗ b) ⊗ (c ⊗ d) ≡ (a ⊗ c) ⊗ (b ⊗ d)
  mul_swap a b c d = R.mul_assoc a b (c ⊗ d) ∙ ap (λ (x : C). a ⊗ x) (mul_left_comm b c d) ∙ sym (R.mul_assoc a c (b ⊗ d))

  -- numerals
  unfoldable pub num : ℕ → C
  num zero = 𝟘
  num (suc n) = num n ⊕ 𝟙

  pub num_add : (m n : ℕ) → num (m + n) ≡ num m ⊕ num n
  unfolding num
  num_add m zero = ap num (Nat.add-zero m) ∙ sym (add_nought (num m))
  num_add m (suc n) = ap num (Nat.add-suc m n) ∙ ap (λ (x : C). x ⊕ 𝟙) (num_add m n) ∙ R.add_assoc (num m) (num n) 𝟙

  pub num_mul : (m n : ℕ) → num (m * n) ≡ num m ⊗ num n
  unfolding num
  num_mul m zero = ap num (Nat.mul-zero m) ∙ sym (mul_nought (num m))
  num_mul m (suc n) =
      ap num (Nat.mul-suc m n) ∙ num_add (m * n) m ∙ ap₂ ◌⊕◌ (num_mul m n) (sym (mul_one (num m)))
      ∙ sym (mul_add (num m) (num n) 𝟙)

  -- powers
  unfoldable pub pow : C → ℕ → C
  pow x zero = 𝟙
  pow x (suc n) = pow x n ⊗ x

  pub pow_zero : (x : C) → pow x 0 ≡ 𝟙
  unfolding pow
  pow_zero x = refl

  pub pow_one : (x : C) → pow x 1 ≡ x
  unfolding pow
  pow_one x = R.one_mul x

  pub pow_suc : (x : C) (n : ℕ) → pow x (suc n) ≡ pow x n ⊗ x
  unfolding pow
  pow_suc x n = refl

  pub pow_add : (x : C) (m n : ℕ) → pow x (m + n) ≡ pow x m ⊗ pow x n
  unfolding pow
  pow_add x m zero = ap (pow x) (Nat.add-zero m) ∙ sym (mul_one (pow x m))
  pow_add x m (suc n) =
      ap (pow x) (Nat.add-suc m n) ∙ ap (λ (y : C). y ⊗ x) (pow_add x m n) ∙ R.mul_assoc (pow x m) (pow x n) x

  pub pow_mul : (x : C) (m n : ℕ) → pow x (m * n) ≡ pow (pow x m) n
  unfolding pow
  pow_mul x m zero = ap (pow x) (Nat.mul-zero m)
  pow_mul x m (suc n) =
      ap (pow x) (Nat.mul-suc m n) ∙ pow_add x (m * n) m ∙ ap (λ (y : C). y ⊗ pow x m) (pow_mul x m n)

  pub pow_of_one : (n : ℕ) → pow 𝟙 n ≡ 𝟙
  unfolding pow
  pow_of_one zero = refl
  pow_of_one (suc n) = mul_one (pow 𝟙 n) ∙ pow_of_one n

  pub pow_of_product : (x y : C) (n : ℕ) → pow (x ⊗ y) n ≡ pow x n ⊗ pow y n
  unfolding pow
  pow_of_product x y zero = sym (R.one_mul 𝟙)
  pow_of_product x y (suc n) =
      ap (λ (z : C). z ⊗ (x ⊗ y)) (pow_of_product x y n) ∙ mul_swap (pow x n) (pow y n) x y
