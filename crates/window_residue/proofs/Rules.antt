-- The two rules of acceptance, each looked at where as few places as stand for all are: the first half beside the whole read backwards (symmetric_is), and the first quarter
-- beside the first half read backwards, whose entries are residues (quarter_below, power_is). Assumes nothing.
use mathlib.Core.Path.{◌≡◌, refl, sym, ◌∙◌, ap, ap₂, subst, subst⁻¹}
use mathlib.Core.Bool.{Bool, true, false, ◌&&◌}
use mathlib.Core.List.{List, [], ◌∷◌}
use mathlib.Core.Logic.{⊎_elim}
use Prim.Native.Nat.{ℕ, zero, suc, ◌+◌, ◌*◌, ◌-◌, ◌/◌, ◌%◌, ◌^◌, ◌<◌, ◌≤◌}
use native.Mathlib.Nat as Nat
use native.Mathlib.Omega.{arith}
use lib.Dec.{T, eqb, eqb→eq}
use lib.ListN.{length, get_or, take}
use lib.Seq.{length-take-le}
use Rattle.std.specs.Prelude.{fold, nat_eq, reverse}
use Rattle.std.specs.Bool.{MatchBool}
use Rattle.std.specs.List.{zip, AllWithin, HoldsAt}
use Rattle.std.proofs.lemmas.List.{get_or-take, get_or-reverse, get_or_default, length-reverse}
use Rattle.std.proofs.lemmas.Slice.Zip.{get_or-zip, length-zip}
use Rattle.sums.proofs.Sizes.{allowed_power, allowed_even}
use Rattle.ring.specs.Finite.{all_below}
use Rattle.ring.proofs.Ring as Ring
use Rattle.ring.proofs.Below.{all_below_at, all_below_of, all_below_fails, both_left, both_right, both_of, true_is, false_is, eq→eqb}
use Rattle.ring.proofs.Modular.{Residue, of, of_mul, of_pow, of_one, of_eq, mod_eq, mul_mod}
use Rattle.sums.specs.Residue.{p, half, Residues}
use Rattle.sums.specs.Size.{allowed_size, exponent_of}
use Rattle.sums.specs.Transform.{entry}
use Rattle.sums.specs.Window.{mirrored, power_two, symmetric_window, unit_power}
use Rattle.sums.proofs.Constants.{above, Zp}

-- a fold that joins tests holds exactly where each test does
module _ {A : Type 0} (test : A → Bool) (z : A) where
  one_more : (x : A) (xs : List A) → T (test x) → ((k : ℕ) → k < length xs → T (test (get_or xs k z))) → (k : ℕ) → k < length (x ∷ xs) → T (test (get_or (x ∷ xs) k z))
  one_more x xs here rest zero l = here
  one_more x xs here rest (suc k) l = rest k (omega arith)

  each_of_fold : (b : Bool) (xs : List A) → T (fold (λ held x. held && test x) b xs) → T b × ((k : ℕ) → k < length xs → T (test (get_or xs k z)))
  each_of_fold b [] t = (t, λ k l. absurd (Nat.not-suc-le-zero l))
  each_of_fold b (x ∷ xs) t =
      let rest = each_of_fold (b && test x) xs t in
      (both_left b (test x) rest.0, one_more x xs (both_right b (test x) rest.0) rest.1)

  fold_of_each : (b : Bool) (xs : List A) → T b → ((k : ℕ) → k < length xs → T (test (get_or xs k z))) → T (fold (λ held x. held && test x) b xs)
  fold_of_each b [] t each = t
  fold_of_each b (x ∷ xs) t each =
      fold_of_each (b && test x) xs (both_of b (test x) t (each 0 (omega arith))) (λ k l. each (suc k) (omega arith))

same_bool : (a b : Bool) → (T a → T b) → (T b → T a) → a ≡ b
same_bool true b there back = true_is b (there tt)
same_bool false b there back = false_is b back

-- the first m entries, each beside the one as far from the end
abbrev pub mirror : ℕ → List ℕ → List (ℕ × ℕ)
mirror m x = zip (take m x) (reverse x)

module _ (m : ℕ) (x : List ℕ) (enough : m ≤ length x) where
  mirror_at : (k : ℕ) (d : ℕ × ℕ) → k < m → get_or (mirror m x) k d ≡ (get_or x k 0, get_or x (length x - 1 - k) 0)
  mirror_at k d below =
      let front : k < length (take m x) = omega (arith, length-take-le m x enough) in
      let back : k < length (reverse x) = omega (arith, length-reverse x) in
      get_or-zip (take m x) (reverse x) k d front back
      ∙ ap₂ (λ (a b : ℕ). (a, b)) (get_or-take m x k d.0 below ∙ get_or_default x k d.0 0 (omega arith))
      (get_or-reverse x k d.1 (omega arith) ∙ get_or_default x (length x - 1 - k) d.1 0 (omega arith))

  mirror_length : length (mirror m x) ≡ m
  mirror_length = omega (arith, length-zip (take m x) (reverse x), length-take-le m x enough, length-reverse x)

-- the window read backwards
module _ (N : ℕ) (w : List ℕ) (whole : length w ≡ 2 * N) where
  -- the second half is the first one's mirror image
  mirrored_half : T (all_below N (mirrored N w)) → T (symmetric_window N w)
  mirrored_half before =
      all_below_of (2 * N) (mirrored N w)
      (λ k below.
      ⊎_elim
      (λ (late : N - k ≡ 0).
      let back : 2 * N - 1 - (2 * N - 1 - k) ≡ k = omega arith in
      eq→eqb (entry w k) (entry w (2 * N - 1 - k))
      (sym (eqb→eq (entry w (2 * N - 1 - k)) (entry w (2 * N - 1 - (2 * N - 1 - k))) (all_below_at N (mirrored N w) before (2 * N - 1 - k) (omega arith))
      ∙ ap (entry w) back)))
      (λ (early : 0 < N - k). all_below_at N (mirrored N w) before k (omega arith))
      (Nat.eq-zero-or-pos (N - k)))

  equal : ℕ × ℕ → Bool
  equal pair = nat_eq pair.0 pair.1

  equal_at : (k : ℕ) → k < N → equal (get_or (mirror N w) k (0, 0)) ≡ mirrored N w k
  unfolding equal
  equal_at k below =
      ap equal (mirror_at N w (omega arith) k (0, 0) below) ∙ ap (λ (n : ℕ). eqb (entry w k) (entry w (n - 1 - k))) whole

  pub symmetric_is : fold (λ same (pair : ℕ × ℕ). same && nat_eq pair.0 pair.1) true (mirror N w) ≡ symmetric_window N w
  unfolding equal
  symmetric_is =
      same_bool (fold (λ same (pair : ℕ × ℕ). same && equal pair) true (mirror N w)) (symmetric_window N w)
      (λ t.
      mirrored_half (all_below_of N (mirrored N w)
      (λ k below. subst T (equal_at k below) ((each_of_fold equal (0, 0) true (mirror N w) t).1 k (omega (arith, mirror_length N w (omega arith)))))))
      (λ t.
      fold_of_each equal (0, 0) true (mirror N w) tt
      (λ k below.
      let within : k < N = omega (arith, mirror_length N w (omega arith)) in
      subst⁻¹ T (equal_at k within) (all_below_at (2 * N) (mirrored N w) t k (omega arith))))

-- N = 2^m has the inverse (1/2)^m
halves : (m : ℕ) → of p (half ^ m * 2 ^ m) ≡ Zp.one
halves m =
    of_mul p above (half ^ m) (2 ^ m) ∙ ap₂ Zp.mul (of_pow p above half m) (of_pow p above 2 m) ∙ sym (Ring.pow_of_product Zp (of p half) (of p 2) m)
    ∙ ap (λ (x : Residue p). Ring.pow Zp x m) (sym (of_mul p above half 2) ∙ of_eq p (half * 2) 1 refl ∙ of_one p above)
    ∙ Ring.pow_of_one Zp m

-- N·x is 2 exactly if x is 2/N
module _ (N m share : ℕ) (power : N ≡ 2 ^ m) (is : share ≡ 2 * half ^ m % p) (x : ℕ) where
  pub share_enough : x % p ≡ share → N * x % p ≡ 2
  share_enough e =
      let regroup : 2 ^ m * (2 * half ^ m) ≡ 2 * (half ^ m * 2 ^ m) = omega arith in
      ap (λ (n : ℕ). n * x % p) power ∙ sym (mul_mod (2 ^ m) x p) ∙ ap (λ (y : ℕ). 2 ^ m * y % p) (e ∙ is) ∙ mul_mod (2 ^ m) (2 * half ^ m) p
      ∙ mod_eq p (2 ^ m * (2 * half ^ m)) 2
      (ap (of p) regroup ∙ of_mul p above 2 (half ^ m * 2 ^ m) ∙ ap (Zp.mul (of p 2)) (halves m) ∙ Ring.mul_one Zp (of p 2))

  pub share_needed : N * x % p ≡ 2 → x % p ≡ share
  share_needed e =
      let regroup : half ^ m * (2 ^ m * x) ≡ half ^ m * 2 ^ m * x = omega arith in
      mod_eq p x (2 * half ^ m)
      (sym (Zp.one_mul (of p x)) ∙ ap (λ (y : Residue p). Zp.mul y (of p x)) (sym (halves m)) ∙ sym (of_mul p above (half ^ m * 2 ^ m) x)
      ∙ ap (of p) (sym regroup) ∙ of_mul p above (half ^ m) (2 ^ m * x)
      ∙ ap (Zp.mul (of p (half ^ m))) (of_eq p (2 ^ m * x) 2 (ap (λ (n : ℕ). n * x % p) (sym power) ∙ e))
      ∙ sym (of_mul p above (half ^ m) 2) ∙ ap (of p) (Nat.mul_comm (half ^ m) 2))
      ∙ sym is

-- less a share of 2/N, a number is a multiple of p exactly if the share is its residue
module _ (N share : ℕ) (is : share ≡ 2 * half ^ exponent_of N % p) where
  pub share_below : share < p
  share_below = omega (arith, is)

  pub share_left : (x : ℕ) → (x + (p - share)) % p ≡ 0 → x % p ≡ share
  share_left x e = omega (arith, share_below)

  pub share_gone : (x : ℕ) → x % p ≡ share → (x + (p - share)) % p ≡ 0
  share_gone x e = omega (arith, share_below)

-- the squares of an entry of the first half and of the one as far from the half's end
abbrev pub squares : ℕ → List ℕ → ℕ → ℕ
squares N w i = entry w i * entry w i + entry w (N - 1 - i) * entry w (N - 1 - i)

-- the power at the first places of a symmetric window, as far as i; each is that of the place as far from the end of the first half as well
module _ (N share : ℕ) (w : List ℕ) (allowed : T (allowed_size 2 N)) (same : T (symmetric_window N w)) (is : share ≡ 2 * half ^ exponent_of N % p) where
  overlap : (i : ℕ) → i < N → N * squares N w i % p ≡ N * (entry w i * entry w i + entry w (N + i) * entry w (N + i)) % p
  overlap i below =
      let place : 2 * N - 1 - (N + i) ≡ N - 1 - i = omega arith in
      ap (λ (y : ℕ). N * (entry w i * entry w i + y * y) % p)
      (sym (eqb→eq (entry w (N + i)) (entry w (2 * N - 1 - (N + i))) (all_below_at (2 * N) (mirrored N w) same (N + i) (omega arith)) ∙ ap (entry w) place))

  pub power_fails : (i r : ℕ) → i < N → r ≡ (squares N w i + (p - share)) % p → (r ≡ 0 → ⊥) → false ≡ unit_power N w
  power_fails i r below squared other =
      all_below_fails N (power_two N w) i below
      (λ t.
      other (squared ∙ share_gone N share is (squares N w i) (share_needed N (exponent_of N) share (allowed_power 2 N allowed).1 is (squares N w i)
      (overlap i below ∙ eqb→eq (N * (entry w i * entry w i + entry w (N + i) * entry w (N + i)) % p) 2 t))))

  pub power_all : (i : ℕ) → ((k : ℕ) → k < i → squares N w k % p ≡ share) → N ≤ 2 * i → true ≡ unit_power N w
  power_all i before past =
      true_is (unit_power N w)
      (all_below_of N (power_two N w)
      (λ k below. eq→eqb (N * (entry w k * entry w k + entry w (N + k) * entry w (N + k)) % p) 2 (sym (overlap k below) ∙ two k below)))
    where
      enough : (k : ℕ) → squares N w k % p ≡ share → N * squares N w k % p ≡ 2
      enough k = share_enough N (exponent_of N) share (allowed_power 2 N allowed).1 is (squares N w k)

      turned : (k : ℕ) → k < N → squares N w (N - 1 - k) ≡ squares N w k
      turned k below =
          let back : N - 1 - (N - 1 - k) ≡ k = omega arith in
          ap (λ (j : ℕ). entry w (N - 1 - k) * entry w (N - 1 - k) + entry w j * entry w j) back
          ∙ Nat.add_comm (entry w (N - 1 - k) * entry w (N - 1 - k)) (entry w k * entry w k)

      two : (k : ℕ) → k < N → N * squares N w k % p ≡ 2
      two k below =
          ⊎_elim (λ (late : i - k ≡ 0). enough k (ap (λ (x : ℕ). x % p) (sym (turned k below)) ∙ before (N - 1 - k) (omega arith)))
          (λ (early : 0 < i - k). enough k (before k (omega arith)))
          (Nat.eq-zero-or-pos (i - k))

  -- the first quarter, each entry beside the one as far from the end of the first half
  abbrev pub quarter : List (ℕ × ℕ)
  quarter = mirror (N / 2) (take N w)

  module _ (whole : length w ≡ 2 * N) where
    half_length : length (take N w) ≡ N
    half_length = length-take-le N w (omega arith)

    quarter_length : length quarter ≡ N / 2
    quarter_length = mirror_length (N / 2) (take N w) (omega (arith, half_length))

    quarter_at : (k : ℕ) (d : ℕ × ℕ) → k < N / 2 → get_or quarter k d ≡ (entry w k, entry w (N - 1 - k))
    quarter_at k d below =
        mirror_at (N / 2) (take N w) (omega (arith, half_length)) k d below
        ∙ ap₂ (λ (a b : ℕ). (a, b)) (get_or-take N w k 0 (omega arith))
        (ap (λ (n : ℕ). get_or (take N w) (n - 1 - k) 0) half_length ∙ get_or-take N w (N - 1 - k) 0 (omega arith))

    pub quarter_below : Residues w → (k : ℕ) (pair : ℕ × ℕ) → k < length quarter → pair ≡ get_or quarter k pair → (pair.0 < p) × (pair.1 < p) × (share < p)
    quarter_below residues k pair below found =
        let place : k < N / 2 = omega (arith, quarter_length) in
        let here = found ∙ quarter_at k pair place in (
          subst (λ (x : ℕ). x < p) (sym (ap (λ (q : ℕ × ℕ). q.0) here)) (residues.below k (omega arith)),
          subst (λ (x : ℕ). x < p) (sym (ap (λ (q : ℕ × ℕ). q.1) here)) (residues.below (N - 1 - k) (omega arith)),
          share_below N share is,
        )

    -- what is left of a pair's power
    abbrev pub left : ℕ × ℕ → ℕ
    left pair = (pair.0 * pair.0 + pair.1 * pair.1 + (p - share)) % p

    pub power_is : (r : Bool) → MatchBool r (AllWithin (λ pair. left pair ≡ 0) quarter 0 (length quarter))
        ((k : ℕ) × (k < length quarter) × HoldsAt (λ pair. left pair ≡ 0 → ⊥) quarter k) → r ≡ unit_power N w
    power_is true all =
        power_all (N / 2)
        (λ k below.
        share_left N share is (squares N w k) (sym (ap left (quarter_at k (0, 0) below)) ∙ all k (0, 0) (omega arith) (omega (arith, quarter_length))))
        (omega (arith, allowed_even N allowed))
    power_is false found =
        let place : found.0 < N / 2 = omega (arith, quarter_length) in
        power_fails found.0 (left (get_or quarter found.0 (0, 0))) (omega arith) (ap left (quarter_at found.0 (0, 0) place)) (found.2 (0, 0))
