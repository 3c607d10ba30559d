-- Whole numbers as residues: the residue of a sum is the sum of the residues (of_whole_add), so that shots that are added up as residues
-- are added up as whole numbers wherever the sum is within half of p (of_total, pooled_whole). Assumes nothing.
use mathlib.Core.Path.{◌≡◌, refl, sym, ◌∙◌, ap, ap₂}
use mathlib.Core.Bool.{Bool, true, false, cond}
use mathlib.Core.List.{List, [], ◌∷◌, map}
use Prim.Native.Nat.{ℕ, suc, ◌+◌, ◌*◌, ◌-◌, ◌%◌, ◌<◌, ◌≤◌}
use native.Mathlib.Nat as Nat
use native.Mathlib.Omega.{arith}
use borrow.Author.Tests.{leb-true, leb-false}
use lib.Dec.{ltb}
use lib.ListN.{length, get_or, get_or-map}
use lib.IntN.{ℤ, pos, negsuc, nat_abs, sub_ℕ, ◌+ℤ◌}
use Rattle.ring.specs.Finite.{tab}
use Rattle.ring.proofs.Ring as Ring
use Rattle.ring.proofs.Solve.{ring, var, ◌:+◌, :-◌}
use Rattle.ring.proofs.Table.{tab_ext, map_tab}
use Rattle.ring.proofs.Modular.{Residue, of, of_add, of_neg, mod_eq}
use Rattle.sums.specs.Residue.{p}
use Rattle.sums.specs.Signed.{residue_of, signed_of}
use Rattle.sums.specs.Transform.{entry}
use Rattle.sums.specs.Shots.{Each, none, more, Samples}
use Rattle.sums.specs.Curve.{total, pooled, residues_of, whole_total}
use Rattle.sums.proofs.Constants.{above, Zp}
use Rattle.sums.proofs.Signed.{residue_below, signed_residue}

-- what holds of each entry holds of what is made of it
pub each_map : {A B : Type 0} {P : A → Type 0} {Q : B → Type 0} (f : A → B) → ((x : A) → P x → Q (f x)) → {xs : List A} → Each P xs
    → Each Q (map f xs)
each_map f kept none = none
each_map f kept (more {x} here others) = more (kept x here) (each_map f kept others)

pub each_kept : {A : Type 0} {P Q : A → Type 0} → ((x : A) → P x → Q x) → {xs : List A} → Each P xs → Each Q xs
each_kept kept none = none
each_kept kept (more {x} here others) = more (kept x here) (each_kept kept others)

-- any whole number as a residue
of_whole : ℤ → Residue p
of_whole (pos n) = of p n
of_whole (negsuc n) = Zp.neg (of p (suc n))

of_whole_sub : (a b : ℕ) → of_whole (sub_ℕ a b) ≡ Zp.add (of p a) (Zp.neg (of p b))
unfolding of_whole
of_whole_sub a b = by (ltb a b) refl
  where
    by : (c : Bool) → ltb a b ≡ c → of_whole (cond c (negsuc (b - suc a)) (pos (a - b))) ≡ Zp.add (of p a) (Zp.neg (of p b))
    by true is =
        let parts : b ≡ a + suc (b - suc a) = omega (arith, leb-true (suc a) b is) in
        sym (ap (λ (r : Residue p). Zp.add (of p a) (Zp.neg r)) (ap (of p) parts ∙ of_add p above a (suc (b - suc a)))
        ∙ ring Zp (of p a ∷ of p (suc (b - suc a)) ∷ []) (var 0 :+ :- (var 0 :+ var 1)) (:- var 1) tt)
    by false is =
        let parts : a ≡ b + (a - b) = omega (arith, leb-false (suc a) b is) in
        sym (ap (λ (r : Residue p). Zp.add r (Zp.neg (of p b))) (ap (of p) parts ∙ of_add p above b (a - b))
        ∙ ring Zp (of p b ∷ of p (a - b) ∷ []) (var 0 :+ var 1 :+ :- var 0) (var 1) tt)

of_whole_add : (s t : ℤ) → of_whole (s +ℤ t) ≡ Zp.add (of_whole s) (of_whole t)
unfolding of_whole
of_whole_add (pos a) (pos b) = of_add p above a b
of_whole_add (pos a) (negsuc b) = of_whole_sub a (suc b)
of_whole_add (negsuc a) (pos b) = of_whole_sub b (suc a) ∙ Zp.add_comm (of p b) (Zp.neg (of p (suc a)))
of_whole_add (negsuc a) (negsuc b) =
    let parts : suc (suc (a + b)) ≡ suc a + suc b = omega arith in
    ap (λ (n : ℕ). Zp.neg (of p n)) parts ∙ ap Zp.neg (of_add p above (suc a) (suc b)) ∙ Ring.neg_sum Zp (of p (suc a)) (of p (suc b))

sub_within : (a b : ℕ) → nat_abs (sub_ℕ a b) ≤ a + b
sub_within a b = by (ltb a b) refl
  where
    by : (c : Bool) → ltb a b ≡ c → nat_abs (cond c (negsuc (b - suc a)) (pos (a - b))) ≤ a + b
    by true is = omega (arith, leb-true (suc a) b is)
    by false is = omega arith

sum_within : (s t : ℤ) → nat_abs (s +ℤ t) ≤ nat_abs s + nat_abs t
sum_within (pos a) (pos b) = Nat.le_refl (a + b)
sum_within (pos a) (negsuc b) = sub_within a (suc b)
sum_within (negsuc a) (pos b) = omega (arith, sub_within b (suc a))
sum_within (negsuc a) (negsuc b) = omega arith

-- a sample's residue
of_sample : (s : ℤ) → nat_abs s ≤ 499122176 → of p (residue_of s) ≡ of_whole s
unfolding of_whole
of_sample (pos n) within = refl
of_sample (negsuc n) within =
    let all : suc n + (p - suc n) ≡ p = omega arith in
    of_neg p above (suc n) (p - suc n) (ap (λ (m : ℕ). m % p) all)

module _ (n : ℕ) where
  -- the sums of the samples' residues are the residues of the samples' sums
  of_total : (shots : List (List ℤ)) → Each (Samples n 499122176) shots → (k : ℕ) → k < n
      → of p (total (map residues_of shots) k) ≡ of_whole (whole_total shots k)
  unfolding total whole_total
  of_total shots none k l = unfold of_whole in refl
  of_total shots (more {x = shot} {rest} samples others) k l =
      of_add p above (entry (residues_of shot) k) (total (map residues_of rest) k)
      ∙ ap₂ Zp.add
      (ap (of p) (get_or-map residue_of shot k (pos 0)) ∙ of_sample (get_or shot k (pos 0)) (samples.within k l))
      (of_total rest others k l)
      ∙ sym (of_whole_add (get_or shot k (pos 0)) (whole_total rest k))

  -- a sum is at most as many times the limit as there are shots
  pub whole_total_within : (limit : ℕ) (shots : List (List ℤ)) → Each (Samples n limit) shots → (k : ℕ) → k < n
      → nat_abs (whole_total shots k) ≤ length shots * limit
  unfolding whole_total
  whole_total_within limit shots none k l = omega arith
  whole_total_within limit shots (more {x = shot} {rest} samples others) k l =
      omega (arith, sum_within (get_or shot k (pos 0)) (whole_total rest k), samples.within k l, whole_total_within limit rest others k l)

  -- shots added up as residues and read as whole numbers are the shots added up, where the sums are within half of p
  pub pooled_whole : (shots : List (List ℤ)) → Each (Samples n 499122176) shots
      → ((k : ℕ) → k < n → nat_abs (whole_total shots k) ≤ 499122176)
      → map signed_of (pooled n (map residues_of shots)) ≡ tab n (whole_total shots)
  unfolding pooled
  pooled_whole shots samples sums =
      map_tab signed_of n (λ k. total (map residues_of shots) k % p)
      ∙ tab_ext n
      (λ k l.
      ap signed_of
      (mod_eq p (total (map residues_of shots) k) (residue_of (whole_total shots k))
      (of_total shots samples k l ∙ sym (of_sample (whole_total shots k) (sums k l)))
      ∙ Nat.mod-eq_of_lt (residue_below (whole_total shots k) (sums k l)))
      ∙ signed_residue (whole_total shots k) (sums k l))
