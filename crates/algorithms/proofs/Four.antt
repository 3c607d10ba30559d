-- Type 4 by type 3 over residues, at every length 2m where 4m goes into a quarter turn (dct4_merged, dst4_merged); and so the routines are the defining sums, at every
-- length up to 1024 (fast_dct4_is, fast_dst4_is). First the entries of the inner inputs. Assumes nothing.
use mathlib.Core.Path.{◌≡◌, refl, sym, ◌∙◌, ap, ap₂, subst}
use mathlib.Core.Bool.{Bool, true, false, cond}
use mathlib.Core.List.{List}
use Prim.Native.Nat.{ℕ, zero, suc, ◌+◌, ◌*◌, ◌-◌, ◌^◌, ◌<◌, ◌≤◌}
use native.Mathlib.Nat as Nat
use native.Mathlib.Omega.{arith}
use lib.Dec.{T, eqb, eqb→eq, eqb_refl}
use lib.ListN.{length}
use Rattle.ring.specs.Finite.{tab}
use Rattle.ring.proofs.Fourth as Fourth
use Rattle.ring.proofs.Sign.{sign}
use Rattle.ring.proofs.Table.{length_tab, get_or_tab}
use Rattle.ring.proofs.Third.{third}
use Rattle.ring.proofs.Turn as Turn
use Rattle.ring.proofs.Modular.{Residue, of}
use Rattle.sums.specs.Residue.{p}
use Rattle.sums.specs.Transform.{entry, dct3_sum, dst3_sum, dct4_sum, dst4_sum}
use Rattle.sums.proofs.Constants.{Zp}
use Rattle.sums.proofs.Fourths.{of_dct4, of_dst4}
use Rattle.sums.proofs.Lengths.{Length, turn_at, type4_length}
use Rattle.sums.proofs.Outputs.{residues, length_dct4, dct4_residues, length_dst4, dst4_residues}
use Rattle.algorithms.specs.Four.{last_doubled, first_doubled, left_dct4, right_dct4, left_dst4, right_dst4, output, mirrored_dct4, mirrored_dst4, merge_dct4, merge_dst4, dct4_by, dst4_by, fast_dct4, fast_dst4}
use Rattle.algorithms.specs.Lists.{reversed}
use Rattle.algorithms.specs.Ops.{Ops, at}
use Rattle.algorithms.specs.Residues.{residue_ops, residue_twiddles}
use Rattle.algorithms.proofs.Carried.{is_entry, of_double, of_sum, of_difference, of_along, of_across}
use Rattle.algorithms.proofs.Lists.{get_or_reversed, there_back_is}
use Rattle.algorithms.proofs.Sines.{of_dst3_part}
use Rattle.algorithms.proofs.Split.{split_dct3_is, split_dst3_is}
use Rattle.algorithms.proofs.Thirds.{of_dct3_part}
use Rattle.algorithms.proofs.Twiddles.{of_twiddle_cos, of_twiddle_sin}

module _ {A : Type 0} (O : Ops A) (m : ℕ) (x : List A) where
  pub length_left_dct4 : length (left_dct4 O m x) ≡ m
  unfolding left_dct4
  length_left_dct4 = length_tab m _

  pub length_right_dct4 : length (right_dct4 O m x) ≡ m
  unfolding right_dct4
  length_right_dct4 = length_tab m _

  pub length_left_dst4 : length (left_dst4 O m x) ≡ m
  unfolding left_dst4
  length_left_dst4 = length_tab m _

  pub length_right_dst4 : length (right_dst4 O m x) ≡ m
  unfolding right_dst4
  length_right_dst4 = length_tab m _

  -- the last entry doubled, and what pairs of neighbours give before it
  pub last_doubled_is : (op : A → A → A) (k : ℕ) → suc k ≡ m → last_doubled O m x op k ≡ O.double (at O x (2 * m - 1))
  last_doubled_is op k e =
      ap (λ (n : ℕ). cond (eqb (suc k) n) (O.double (at O x (2 * m - 1))) (op (at O x (2 * k + 1)) (at O x (2 * k + 2)))) (sym e)
      ∙ by (eqb (suc k) (suc k)) (eqb_refl (suc k))
    where
      by : (b : Bool) → T b → cond b (O.double (at O x (2 * m - 1))) (op (at O x (2 * k + 1)) (at O x (2 * k + 2))) ≡ O.double (at O x (2 * m - 1))
      by true t = refl
      by false t = absurd t

  pub before_last : (op : A → A → A) (k : ℕ) → suc k < m → last_doubled O m x op k ≡ op (at O x (2 * k + 1)) (at O x (2 * k + 2))
  before_last op k l = by (eqb (suc k) m) (eqb→eq (suc k) m)
    where
      by : (b : Bool) → (T b → suc k ≡ m)
          → cond b (O.double (at O x (2 * m - 1))) (op (at O x (2 * k + 1)) (at O x (2 * k + 2))) ≡ op (at O x (2 * k + 1)) (at O x (2 * k + 2))
      by true e = absurd (Nat.lt_irrefl m (subst (λ (n : ℕ). n < m) (e tt) l))
      by false e = refl

-- m is suc r here
module _ (r : ℕ) (L : Length (4 * suc r)) (x : List ℕ) (N : length x ≡ 2 * suc r) where
  abbrev m : ℕ
  m = suc r

  abbrev n : ℕ
  n = 4 * suc r

  abbrev W : Turn.Turn Zp (4 * suc r)
  W = turn_at (4 * suc r) L

  twice : 2 * (2 * suc r) ≡ 4 * suc r
  twice = omega arith

  -- entries of the inner inputs, by the function that makes them
  first_entry : (op : ℕ → ℕ → ℕ) → residues (tab m (first_doubled residue_ops m x op)) 0 ≡ Zp.add (residues x 0) (residues x 0)
  first_entry op = ap (of p) (get_or_tab m (first_doubled residue_ops m x op) 0 0 (omega arith)) ∙ of_double (entry x 0)

  after_first : (op : ℕ → ℕ → ℕ) (i : ℕ) → i < r → entry (tab m (first_doubled residue_ops m x op)) (suc i) ≡ op (entry x (2 * i + 1)) (entry x (2 * i + 2))
  after_first op i l = get_or_tab m (first_doubled residue_ops m x op) (suc i) 0 (omega arith)

  last_entry : (op : ℕ → ℕ → ℕ) → residues (tab m (last_doubled residue_ops m x op)) r ≡ Zp.add (residues x (2 * r + 1)) (residues x (2 * r + 1))
  last_entry op =
      let last : 2 * suc r - 1 ≡ 2 * r + 1 = omega arith in
      ap (of p) (get_or_tab m (last_doubled residue_ops m x op) r 0 (omega arith) ∙ last_doubled_is residue_ops m x op r refl) ∙ of_double (entry x (2 * m - 1))
      ∙ ap (λ (i : ℕ). Zp.add (residues x i) (residues x i)) last

  other_entry : (op : ℕ → ℕ → ℕ) (i : ℕ) → i < r → entry (tab m (last_doubled residue_ops m x op)) i ≡ op (entry x (2 * i + 1)) (entry x (2 * i + 2))
  other_entry op i l = get_or_tab m (last_doubled residue_ops m x op) i 0 (omega arith) ∙ before_last residue_ops m x op i (omega arith)

  -- a list read backwards, by a place counted from its end
  backwards : (y : List ℕ) (i k : ℕ) → i + suc k ≡ length y → residues (reversed residue_ops y) i ≡ residues y k
  backwards y i k e = ap (of p) (get_or_reversed residue_ops y i k 0 e)

  -- DCT-IV: the sums as they are, and the differences backwards
  abbrev cos_left : List ℕ
  cos_left = left_dct4 residue_ops (suc r) x

  abbrev cos_right : List ℕ
  cos_right = right_dct4 residue_ops (suc r) x

  dct4_paired : Fourth.Paired Zp r (residues x) (residues cos_left) (residues (reversed residue_ops cos_right))
  unfolding left_dct4 right_dct4
  dct4_paired =
      record {
        u_first = first_entry residue_ops.add;
        u_rest = λ i l. ap (of p) (after_first residue_ops.add i l) ∙ of_sum (entry x (2 * i + 1)) (entry x (2 * i + 2)) refl refl;
        v_first = backwards cos_right 0 r (omega (arith, length_right_dct4 residue_ops m x)) ∙ last_entry residue_ops.sub;
        v_rest = λ k i e.
            backwards cos_right (suc k) i (omega (arith, length_right_dct4 residue_ops m x)) ∙ ap (of p) (other_entry residue_ops.sub i (omega arith))
            ∙ of_difference (entry x (2 * i + 1)) (entry x (2 * i + 2)) refl refl;
      }

  cos_left_is : (k : ℕ) → k < m → residues (dct3_sum cos_left) k ≡ third Zp n W 4 m (residues cos_left) k
  cos_left_is k l = of_dct3_part 4 m n refl L cos_left (length_left_dct4 residue_ops m x) k l

  cos_right_is : (k : ℕ) → k < m → residues (dst3_sum cos_right) k ≡ Zp.mul (sign Zp k) (third Zp n W 4 m (residues (reversed residue_ops cos_right)) k)
  cos_right_is k l = of_dst3_part 4 m n refl L cos_right (length_right_dct4 residue_ops m x) k l

  dct4_is : merge_dct4 residue_ops residue_twiddles m (dct3_sum cos_left) (dst3_sum cos_right) ≡ dct4_sum x
  unfolding merge_dct4
  dct4_is =
      there_back_is m (output residue_ops residue_twiddles m (dct3_sum cos_left) (dst3_sum cos_right)) (mirrored_dct4 residue_ops residue_twiddles m (dct3_sum cos_left) (dst3_sum cos_right)) 0
      (dct4_sum x) (length_dct4 x ∙ N)
      (λ k l.
      is_entry (dct4_sum x) (dct4_residues x) k _ (omega (arith, length_dct4 x)) (Nat.mod-mod _ p)
      (of_along (entry (dct3_sum cos_left) k) (entry (dst3_sum cos_right) k) _ _ (cos_left_is k l) (cos_right_is k l) (of_twiddle_cos m L k) (of_twiddle_sin m L k)
      ∙ sym (Fourth.fourth_first Zp r W (residues x) (residues cos_left) (residues (reversed residue_ops cos_right)) dct4_paired k)
      ∙ sym (of_dct4 (2 * m) n twice L x N k (omega arith))))
      (λ i k l e.
      is_entry (dct4_sum x) (dct4_residues x) i _ (omega (arith, length_dct4 x)) (Nat.mod-mod _ p)
      (of_across (entry (dst3_sum cos_right) k) (entry (dct3_sum cos_left) k) _ _ (cos_right_is k l) (cos_left_is k l) (of_twiddle_sin m L k) (of_twiddle_cos m L k)
      ∙ sym (Fourth.fourth_mirrored Zp r W (residues x) (residues cos_left) (residues (reversed residue_ops cos_right)) dct4_paired k i (omega arith))
      ∙ sym (of_dct4 (2 * m) n twice L x N i (omega arith))))

  -- DST-IV: the same of the entries read backwards, where the sums are backwards and the differences as they are
  abbrev sin_left : List ℕ
  sin_left = left_dst4 residue_ops (suc r) x

  abbrev sin_right : List ℕ
  sin_right = right_dst4 residue_ops (suc r) x

  from_end : (i k : ℕ) → i + suc k ≡ 2 * m → residues (reversed residue_ops x) i ≡ residues x k
  from_end i k e = backwards x i k (e ∙ sym N)

  dst4_paired : Fourth.Paired Zp r (residues (reversed residue_ops x)) (residues (reversed residue_ops sin_left)) (residues sin_right)
  unfolding left_dst4 right_dst4
  dst4_paired =
      record {
        u_first = backwards sin_left 0 r (omega (arith, length_left_dst4 residue_ops m x)) ∙ last_entry residue_ops.add ∙ ap twofold (sym (from_end 0 (2 * r + 1) (omega arith)));
        u_rest = λ i l. pair_backwards i (r - suc i) (omega arith);
        v_first = first_entry (λ a b. residue_ops.sub b a) ∙ ap twofold (sym (from_end (2 * r + 1) 0 (omega arith)));
        v_rest = λ k i e.
            ap (of p) (after_first (λ a b. residue_ops.sub b a) k (omega arith))
            ∙ of_difference (entry x (2 * k + 2)) (entry x (2 * k + 1)) (sym (from_end (2 * i + 1) (2 * k + 2) (omega arith))) (sym (from_end (2 * i + 2) (2 * k + 1) (omega arith)));
      }
    where
      twofold : Residue p → Residue p
      twofold a = Zp.add a a

      pair_backwards : (i k : ℕ) → k + suc i ≡ r
          → residues (reversed residue_ops sin_left) (suc i)
          ≡ Zp.add (residues (reversed residue_ops x) (2 * i + 1)) (residues (reversed residue_ops x) (2 * i + 2))
      pair_backwards i k e =
          backwards sin_left (suc i) k (omega (arith, length_left_dst4 residue_ops m x)) ∙ ap (of p) (other_entry residue_ops.add k (omega arith))
          ∙ of_sum (entry x (2 * k + 1)) (entry x (2 * k + 2)) (sym (from_end (2 * i + 2) (2 * k + 1) (omega arith))) (sym (from_end (2 * i + 1) (2 * k + 2) (omega arith)))
          ∙ Zp.add_comm _ _

  sin_left_is : (k : ℕ) → k < m → residues (dst3_sum sin_left) k ≡ Zp.mul (sign Zp k) (third Zp n W 4 m (residues (reversed residue_ops sin_left)) k)
  sin_left_is k l = of_dst3_part 4 m n refl L sin_left (length_left_dst4 residue_ops m x) k l

  sin_right_is : (k : ℕ) → k < m → residues (dct3_sum sin_right) k ≡ third Zp n W 4 m (residues sin_right) k
  sin_right_is k l = of_dct3_part 4 m n refl L sin_right (length_right_dst4 residue_ops m x) k l

  dst4_is : merge_dst4 residue_ops residue_twiddles m (dst3_sum sin_left) (dct3_sum sin_right) ≡ dst4_sum x
  unfolding merge_dst4
  dst4_is =
      there_back_is m (output residue_ops residue_twiddles m (dst3_sum sin_left) (dct3_sum sin_right)) (mirrored_dst4 residue_ops residue_twiddles m (dst3_sum sin_left) (dct3_sum sin_right)) 0
      (dst4_sum x) (length_dst4 x ∙ N)
      (λ k l.
      is_entry (dst4_sum x) (dst4_residues x) k _ (omega (arith, length_dst4 x)) (Nat.mod-mod _ p)
      (of_along (entry (dst3_sum sin_left) k) (entry (dct3_sum sin_right) k) _ _ (sin_left_is k l) (sin_right_is k l) (of_twiddle_cos m L k) (of_twiddle_sin m L k)
      ∙ sym (Fourth.sine_first Zp r W (residues (reversed residue_ops x)) (residues (reversed residue_ops sin_left)) (residues sin_right) dst4_paired (residues x) from_end k)
      ∙ sym (of_dst4 (2 * m) n twice L x N k (omega arith))))
      (λ i k l e.
      is_entry (dst4_sum x) (dst4_residues x) i _ (omega (arith, length_dst4 x)) (Nat.mod-mod _ p)
      (of_across (entry (dst3_sum sin_left) k) (entry (dct3_sum sin_right) k) _ _ (sin_left_is k l) (sin_right_is k l) (of_twiddle_cos m L k) (of_twiddle_sin m L k)
      ∙ sym (Fourth.sine_mirrored Zp r W (residues (reversed residue_ops x)) (residues (reversed residue_ops sin_left)) (residues sin_right) dst4_paired (residues x) from_end k i (omega arith))
      ∙ sym (of_dst4 (2 * m) n twice L x N i (omega arith))))

pub dct4_merged : (m : ℕ) → Length (4 * m) → (x : List ℕ) → length x ≡ 2 * m
    → merge_dct4 residue_ops residue_twiddles m (dct3_sum (left_dct4 residue_ops m x)) (dst3_sum (right_dct4 residue_ops m x)) ≡ dct4_sum x
dct4_merged zero L x N = absurd (Nat.lt_irrefl 0 (omega (arith, L.whole)))
dct4_merged (suc r) L x N = dct4_is r L x N

pub dst4_merged : (m : ℕ) → Length (4 * m) → (x : List ℕ) → length x ≡ 2 * m
    → merge_dst4 residue_ops residue_twiddles m (dst3_sum (left_dst4 residue_ops m x)) (dct3_sum (right_dst4 residue_ops m x)) ≡ dst4_sum x
dst4_merged zero L x N = absurd (Nat.lt_irrefl 0 (omega (arith, L.whole)))
dst4_merged (suc r) L x N = dst4_is r L x N

-- over two inner routines that are the sums at m entries, the routines are the sums at 2m
module _ (dct3 dst3 : List ℕ → List ℕ) (m : ℕ) (L : Length (4 * m)) (dct3_is : (y : List ℕ) → length y ≡ m → dct3 y ≡ dct3_sum y)
    (dst3_is : (y : List ℕ) → length y ≡ m → dst3 y ≡ dst3_sum y) (x : List ℕ) (N : length x ≡ 2 * m) where
  pub dct4_by_is : dct4_by residue_ops residue_twiddles dct3 dst3 m x ≡ dct4_sum x
  unfolding dct4_by
  dct4_by_is =
      ap₂ (merge_dct4 residue_ops residue_twiddles m) (dct3_is (left_dct4 residue_ops m x) (length_left_dct4 residue_ops m x))
      (dst3_is (right_dct4 residue_ops m x) (length_right_dct4 residue_ops m x))
      ∙ dct4_merged m L x N

  pub dst4_by_is : dst4_by residue_ops residue_twiddles dct3 dst3 m x ≡ dst4_sum x
  unfolding dst4_by
  dst4_by_is =
      ap₂ (merge_dst4 residue_ops residue_twiddles m) (dst3_is (left_dst4 residue_ops m x) (length_left_dst4 residue_ops m x))
      (dct3_is (right_dst4 residue_ops m x) (length_right_dst4 residue_ops m x))
      ∙ dst4_merged m L x N

pub fast_dct4_is : (k : ℕ) → k ≤ 9 → (x : List ℕ) → length x ≡ 2 * 2 ^ k → fast_dct4 residue_ops residue_twiddles k x ≡ dct4_sum x
unfolding fast_dct4
fast_dct4_is k small = dct4_by_is _ _ (2 ^ k) (type4_length k small) (split_dct3_is k (omega arith)) (split_dst3_is k (omega arith))

pub fast_dst4_is : (k : ℕ) → k ≤ 9 → (x : List ℕ) → length x ≡ 2 * 2 ^ k → fast_dst4 residue_ops residue_twiddles k x ≡ dst4_sum x
unfolding fast_dst4
fast_dst4_is k small = dst4_by_is _ _ (2 ^ k) (type4_length k small) (split_dct3_is k (omega arith)) (split_dst3_is k (omega arith))
