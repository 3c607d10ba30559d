-- Whole numbers modulo any number above 0, as a commutative ring, and the way there and back:
-- `of n` is the residue of n; it keeps sums, products, powers and numerals, and two numbers have one residue exactly if they agree mod M.
-- A residue is a number with a proof that it is reduced, so that two are equal when their numbers are. Assumes nothing.
use mathlib.Core.Path.{◌≡◌, refl, sym, ◌∙◌, ap, ap₂}
use mathlib.Core.HLevel.{Σ_prop_path}
use Prim.Native.Nat.{ℕ, zero, suc, ◌+◌, ◌*◌, ◌-◌, ◌^◌, ◌%◌, ◌/◌, ◌<◌, ◌≤◌}
use native.Mathlib.Nat as Nat
use native.Mathlib.Omega.{arith}
use Rattle.ring.specs.Finite.{sum_of}
use Rattle.ring.proofs.Ring as Ring
use Rattle.ring.proofs.Ring.{Ring}
use Rattle.ring.proofs.Sum.{sum}

pub mod_mul : (a b M : ℕ) → a % M * b % M ≡ a * b % M
mod_mul a b M =
    let split : a * b ≡ a % M * b + M * (a / M * b) = ap (λ (x : ℕ). x * b) (sym (Nat.mod-add-div a M)) ∙ omega arith in
    sym (ap (λ (x : ℕ). x % M) split ∙ Nat.add-mul-mod_self_left (a % M * b) M (a / M * b))

pub mul_mod : (a b M : ℕ) → a * (b % M) % M ≡ a * b % M
mul_mod a b M =
    ap (λ (x : ℕ). x % M) (Nat.mul_comm a (b % M)) ∙ mod_mul b a M ∙ ap (λ (x : ℕ). x % M) (Nat.mul_comm b a)

pub Residue : ℕ → Type 0
Residue M = (v : ℕ) × (v % M ≡ v)

module _ (M : ℕ) where
  pub of : ℕ → Residue M
  unfolding Residue
  of n = (n % M, Nat.mod-mod n M)

  -- the number that stands for a residue
  pub number : Residue M → ℕ
  unfolding Residue
  number a = a.0

  same : (a b : Residue M) → number a ≡ number b → a ≡ b
  unfolding Residue number
  same a b e = Σ_prop_path (λ v. Nat.ℕ_set (v % M) v) e

  pub number_of : (n : ℕ) → number (of n) ≡ n % M
  unfolding of number
  number_of n = refl

  pub number_reduced : (a : Residue M) → number a % M ≡ number a
  unfolding Residue number
  number_reduced a = a.1

  pub of_number : (a : Residue M) → of (number a) ≡ a
  of_number a = same (of (number a)) a (number_of (number a) ∙ number_reduced a)

  -- two numbers have one residue exactly if they agree mod M
  pub of_eq : (m n : ℕ) → m % M ≡ n % M → of m ≡ of n
  of_eq m n e = same (of m) (of n) (number_of m ∙ e ∙ sym (number_of n))

  pub mod_eq : (m n : ℕ) → of m ≡ of n → m % M ≡ n % M
  mod_eq m n e = sym (number_of m) ∙ ap number e ∙ number_of n

  pub of_mod : (n : ℕ) → of (n % M) ≡ of n
  of_mod n = of_eq (n % M) n (Nat.mod-mod n M)

  plus : Residue M → Residue M → Residue M
  plus a b = of (number a + number b)

  times : Residue M → Residue M → Residue M
  times a b = of (number a * number b)

  minus : Residue M → Residue M
  minus a = of (M - number a)

  plus_of : (m n : ℕ) → plus (of m) (of n) ≡ of (m + n)
  unfolding plus
  plus_of m n =
      ap₂ (λ (x y : ℕ). of (x + y)) (number_of m) (number_of n)
      ∙ of_eq (m % M + n % M) (m + n) (sym (Nat.add-mod m n M))

  times_of : (m n : ℕ) → times (of m) (of n) ≡ of (m * n)
  unfolding times
  times_of m n =
      ap₂ (λ (x y : ℕ). of (x * y)) (number_of m) (number_of n)
      ∙ of_eq (m % M * (n % M)) (m * n) (mod_mul m (n % M) M ∙ mul_mod m n M)

  -- a law of numbers is a law of residues
  carried : (a b c : Residue M) (f h : Residue M → Residue M → Residue M → Residue M)
      → ((k m n : ℕ) → f (of k) (of m) (of n) ≡ h (of k) (of m) (of n)) → f a b c ≡ h a b c
  carried a b c f h e =
      sym (back f) ∙ e (number a) (number b) (number c) ∙ back h
    where
      back : (f : Residue M → Residue M → Residue M → Residue M) → f (of (number a)) (of (number b)) (of (number c)) ≡ f a b c
      back f i = f (of_number a i) (of_number b i) (of_number c i)

  module _ (above : 0 < M) where
    minus_plus : (a : Residue M) → plus (minus a) a ≡ of 0
    unfolding minus
    minus_plus a =
        ap (λ (x : Residue M). plus (of (M - number a)) x) (sym (of_number a)) ∙ plus_of (M - number a) (number a)
        ∙ of_eq (M - number a + number a) 0
        (ap (λ (x : ℕ). x % M) (Nat.sub-add_cancel below) ∙ Nat.mod_self M ∙ sym (Nat.zero-mod M))
      where
        below : number a ≤ M
        below = Nat.le_of_lt (rw (number_reduced a) at (Nat.mod-lt (number a) above))

    pub modular : Ring (Residue M)
    modular =
        record {
          nought = of 0;
          one = of 1;
          add = plus;
          mul = times;
          neg = minus;
          add_comm = λ a b. (unfold plus in ap of (Nat.add_comm (number a) (number b)));
          add_assoc = λ a b c. carried a b c (λ x y z. plus (plus x y) z) (λ x y z. plus x (plus y z))
              (λ k m n. ap (λ (x : Residue M). plus x (of n)) (plus_of k m) ∙ plus_of (k + m) n ∙ ap of (Nat.add_assoc k m n)
              ∙ sym (plus_of k (m + n)) ∙ ap (plus (of k)) (sym (plus_of m n)));
          nought_add = λ a. carried a a a (λ x y z. plus (of 0) x) (λ x y z. x) (λ k m n. plus_of 0 k ∙ ap of (Nat.zero-add k));
          neg_add = minus_plus;
          mul_comm = λ a b. (unfold times in ap of (Nat.mul_comm (number a) (number b)));
          mul_assoc = λ a b c. carried a b c (λ x y z. times (times x y) z) (λ x y z. times x (times y z))
              (λ k m n. ap (λ (x : Residue M). times x (of n)) (times_of k m) ∙ times_of (k * m) n ∙ ap of (Nat.mul_assoc k m n)
              ∙ sym (times_of k (m * n)) ∙ ap (times (of k)) (sym (times_of m n)));
          one_mul = λ a. carried a a a (λ x y z. times (of 1) x) (λ x y z. x) (λ k m n. times_of 1 k ∙ ap of (Nat.one-mul k));
          add_mul = λ a b c. carried a b c (λ x y z. times (plus x y) z) (λ x y z. plus (times x z) (times y z))
              (λ k m n. ap (λ (x : Residue M). times x (of n)) (plus_of k m) ∙ times_of (k + m) n ∙ ap of (Nat.add-mul k m n)
              ∙ sym (plus_of (k * n) (m * n)) ∙ ap₂ plus (sym (times_of k n)) (sym (times_of m n)));
        }

    pub of_zero : of 0 ≡ modular.nought
    unfolding modular
    of_zero = refl

    pub of_one : of 1 ≡ modular.one
    unfolding modular
    of_one = refl

    pub of_add : (m n : ℕ) → of (m + n) ≡ modular.add (of m) (of n)
    unfolding modular
    of_add m n = sym (plus_of m n)

    pub of_mul : (m n : ℕ) → of (m * n) ≡ modular.mul (of m) (of n)
    unfolding modular
    of_mul m n = sym (times_of m n)

    pub of_pow : (m k : ℕ) → of (m ^ k) ≡ Ring.pow modular (of m) k
    of_pow m zero = ap of (Nat.pow-zero m) ∙ of_one ∙ sym (Ring.pow_zero modular (of m))
    of_pow m (suc k) =
        ap of (Nat.pow-suc m k) ∙ of_mul (m ^ k) m ∙ ap (λ (x : Residue M). modular.mul x (of m)) (of_pow m k)
        ∙ sym (Ring.pow_suc modular (of m) k)

    pub of_num : (n : ℕ) → of n ≡ Ring.num modular n
    unfolding Ring.num
    of_num zero = of_zero
    of_num (suc n) =
        ap of (omega arith) ∙ of_add n 1 ∙ ap₂ modular.add (of_num n) of_one

    pub of_sum : (n : ℕ) (f : ℕ → ℕ) → of (sum_of ◌+◌ 0 n f) ≡ sum modular n (λ i. of (f i))
    unfolding sum_of
    of_sum zero f = of_zero
    of_sum (suc n) f = of_add (sum_of ◌+◌ 0 n f) (f n) ∙ ap (λ (x : Residue M). modular.add x (of (f n))) (of_sum n f)

    -- what adds up with m to a multiple of M is the negative of m
    pub of_neg : (m n : ℕ) → (m + n) % M ≡ 0 → of n ≡ modular.neg (of m)
    of_neg m n e =
        Ring.neg_only modular (of m) (of n)
        (sym (of_add m n) ∙ of_eq (m + n) 0 (e ∙ sym (Nat.zero-mod M)) ∙ of_zero)
