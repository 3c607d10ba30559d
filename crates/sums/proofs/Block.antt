-- One block there and back: the IMDCT of the MDCT of two segments u and v of N entries, under any window, where N is a power of two from 2 to 1024.
-- What it adds to the two outputs (block_first, block_second) is the DCT-IV of a DCT-IV of the fold, spread. Assumes nothing.
use mathlib.Core.Path.{◌≡◌, sym, ◌∙◌, ap, ap₂, subst}
use mathlib.Core.List.{List, [], ◌∷◌, ◌++◌}
use Prim.Native.Nat.{ℕ, zero, suc, ◌+◌, ◌*◌, ◌-◌, ◌^◌, ◌%◌, ◌<◌, ◌≤◌}
use native.Mathlib.Nat as Nat
use native.Mathlib.Decide.{dec_lt}
use native.Mathlib.Omega.{arith}
use lib.ListN.{length, take, drop}
use lib.Seq.{get_or-take, get_or-drop}
use Rattle.ring.specs.Finite.{tab}
use Rattle.ring.proofs.Fold.{Fold, fold_at, fold_at_is}
use Rattle.ring.proofs.Solve.{ring, var, ◌:+◌, ◌:*◌, :-◌}
use Rattle.ring.proofs.Table.{length_tab, get_or_tab}
use Rattle.ring.proofs.Modular.{Residue, of, number, of_number, of_add, of_mul, mod_eq}
use Rattle.sums.specs.Residue.{p, half, minus_one}
use Rattle.sums.specs.Transform.{entry, dct4_sum, mdct_sum, imdct_sum, times_half_length}
use Rattle.sums.proofs.Constants.{above, Zp, of_minus}
use Rattle.sums.proofs.Fold.{windowed, more, mdct_of_fold, imdct_ahead, imdct_mirror, imdct_beyond}
use Rattle.sums.proofs.Fourths.{dct4_twice}
use Rattle.sums.proofs.Lengths.{Length, turn_at, type4_length}
use Rattle.sums.proofs.Outputs.{residues, residues_front, residues_after, of_output, length_mdct, length_imdct, imdct_residues}

-- N is 2g here
module _ (g e : ℕ) (power : 2 * g ≡ 2 ^ e) (small : e ≤ 10) (L : Length (4 * g)) (w x : List ℕ) where
  abbrev y : ℕ → Residue p
  y = windowed g L w x

  abbrev scale : Residue p
  scale = of p (2 * g * half)

  -- the segments under the window, folded
  fold : List ℕ
  fold = tab (2 * g) (λ i. number p (fold_at Zp g (turn_at (4 * g) L) y i))

  length_fold : length fold ≡ 2 * g
  unfolding fold
  length_fold = length_tab (2 * g) _

  fold_entry : (i : ℕ) → i < 2 * g → residues fold i ≡ fold_at Zp g (turn_at (4 * g) L) y i
  unfolding fold
  fold_entry i l = ap (of p) (get_or_tab (2 * g) _ i 0 l) ∙ of_number p _

  folds : Fold Zp g (turn_at (4 * g) L) y (residues fold)
  folds =
      record {
        low = λ i r b. fold_entry i (omega arith) ∙ (fold_at_is Zp g (turn_at (4 * g) L) y).low i r b;
        high = λ t r l b. fold_entry (g + t) (omega arith) ∙ (fold_at_is Zp g (turn_at (4 * g) L) y).high t r l b;
      }

  -- DCT-IV of the MDCT is the fold, N/2 times
  returned : (i : ℕ) → i < 2 * g → residues (dct4_sum (mdct_sum (2 * g) w x)) i ≡ Zp.mul scale (residues fold i)
  unfolding times_half_length
  returned i l =
      ap (λ (z : List ℕ). residues z i)
      (ap dct4_sum (sym (mdct_of_fold g L w x fold length_fold folds)) ∙ dct4_twice e small fold (length_fold ∙ power))
      ∙ of_output (length fold) (λ l. length fold * half * entry fold l) i (omega (arith, length_fold))
      ∙ ap (λ (n : ℕ). of p (n * half * entry fold i)) length_fold ∙ of_mul p above (2 * g * half) (entry fold i)

  module _ (held : List ℕ) where
    abbrev whole : List ℕ
    whole = imdct_sum (2 * g) w held (mdct_sum (2 * g) w x)

    abbrev room : length (mdct_sum (2 * g) w x) ≡ 2 * g
    room = length_mdct (2 * g) w x

    -- N/2 · w_n · v beyond what is held
    abbrev gain : ℕ → Residue p → Residue p
    gain n v = Zp.add (residues held n) (Zp.mul scale (Zp.mul (residues w n) v))

    first_at : (n m : ℕ) → n + suc m ≡ 2 * g → residues whole n ≡ gain n (Zp.add (y n) (Zp.neg (y m)))
    first_at n m b =
        elim (dec_lt n g) [
          | yes low ↦
              imdct_ahead g L w held (mdct_sum (2 * g) w x) room n low
              ∙ ap (more g L w held (mdct_sum (2 * g) w x) room n) (returned (g + n) (omega arith) ∙ ap (Zp.mul scale) (folds.high n m low b))
              ∙ ring Zp (residues held n ∷ scale ∷ residues w n ∷ y n ∷ y m ∷ [])
              (var 0 :+ var 1 :* (var 3 :+ :- var 4) :* var 2)
              (var 0 :+ var 1 :* (var 2 :* (var 3 :+ :- var 4)))
              tt
          | no high ↦
              imdct_mirror g L w held (mdct_sum (2 * g) w x) room n (g + m) (omega arith) (omega arith)
              ∙ ap (λ (v : Residue p). more g L w held (mdct_sum (2 * g) w x) room n (Zp.neg v))
              (returned (g + m) (omega arith) ∙ ap (Zp.mul scale) (folds.high m n (omega arith) (omega arith)))
              ∙ ring Zp (residues held n ∷ scale ∷ residues w n ∷ y n ∷ y m ∷ [])
              (var 0 :+ :- (var 1 :* (var 4 :+ :- var 3)) :* var 2)
              (var 0 :+ var 1 :* (var 2 :* (var 3 :+ :- var 4)))
              tt
        ]

    second_at : (n m : ℕ) → n + suc m ≡ 2 * g → residues whole (2 * g + n) ≡ gain (2 * g + n) (Zp.add (y (2 * g + n)) (y (2 * g + m)))
    second_at n m b =
        elim (dec_lt n g) [
          | yes low ↦
              by (g - suc n) (omega arith) (imdct_mirror g L w held (mdct_sum (2 * g) w x) room (2 * g + n) (g - suc n) (omega arith) (omega arith))
              (folds.low (g - suc n) n (omega arith) ∙ ap (λ (z : ℕ). Zp.add (Zp.neg (y (2 * g + n))) (Zp.neg (y z))) (omega arith))
          | no high ↦
              by (n - g) (omega arith) (imdct_beyond g L w held (mdct_sum (2 * g) w x) room (2 * g + n) (n - g) (omega arith) (omega arith))
              (folds.low (n - g) m (omega arith) ∙ Zp.add_comm (Zp.neg (y (2 * g + m))) (Zp.neg (y (3 * g + (n - g))))
              ∙ ap (λ (z : ℕ). Zp.add (Zp.neg (y z)) (Zp.neg (y (2 * g + m)))) (omega arith))
        ]
      where
        by : (i : ℕ) → i < 2 * g
            → residues whole (2 * g + n)
            ≡ more g L w held (mdct_sum (2 * g) w x) room (2 * g + n) (Zp.neg (residues (dct4_sum (mdct_sum (2 * g) w x)) i))
            → residues fold i ≡ Zp.add (Zp.neg (y (2 * g + n))) (Zp.neg (y (2 * g + m)))
            → residues whole (2 * g + n) ≡ gain (2 * g + n) (Zp.add (y (2 * g + n)) (y (2 * g + m)))
        by i l rule is =
            rule
            ∙ ap (λ (v : Residue p). more g L w held (mdct_sum (2 * g) w x) room (2 * g + n) (Zp.neg v))
            (returned i l ∙ ap (Zp.mul scale) is)
            ∙ ring Zp (residues held (2 * g + n) ∷ scale ∷ residues w (2 * g + n) ∷ y (2 * g + n) ∷ y (2 * g + m) ∷ [])
            (var 0 :+ :- (var 1 :* (:- var 3 :+ :- var 4)) :* var 2)
            (var 0 :+ var 1 :* (var 2 :* (var 3 :+ var 4)))
            tt

-- what is held and added, as a residue
of_gain : (held scale w a : ℕ) {v : Residue p} → of p a ≡ v
    → of p (held + scale * (w * a)) ≡ Zp.add (of p held) (Zp.mul (of p scale) (Zp.mul (of p w) v))
of_gain held scale w a is =
    of_add p above held (scale * (w * a))
    ∙ ap (Zp.add (of p held)) (of_mul p above scale (w * a) ∙ ap (Zp.mul (of p scale)) (of_mul p above w a ∙ ap (Zp.mul (of p w)) is))

module _ (g e : ℕ) (power : 2 * g ≡ 2 ^ e) (small : e ≤ 10) (L : Length (4 * g)) (w h z u v : List ℕ) (lh : length h ≡ 2 * g) (lu : length u ≡ 2 * g) where
  abbrev block : List ℕ
  block = imdct_sum (2 * g) w (h ++ z) (mdct_sum (2 * g) w (u ++ v))

  settled : (n a : ℕ) → n < 2 * (2 * g) → residues block n ≡ of p a → entry block n ≡ a % p
  settled n a l same =
      sym (Nat.mod-eq_of_lt ((imdct_residues (2 * g) w (h ++ z) (mdct_sum (2 * g) w (u ++ v))).below n (omega (arith, length_imdct (2 * g) w (h ++ z) (mdct_sum (2 * g) w (u ++ v))))))
      ∙ mod_eq p (entry block n) a same

  first_entry : (n m : ℕ) → n + suc m ≡ 2 * g
      → entry (take (2 * g) block) n ≡ (entry h n + 2 * g * half * (entry w n * (entry w n * entry u n + minus_one * (entry w m * entry u m)))) % p
  first_entry n m b =
      get_or-take (2 * g) block n 0 (omega arith)
      ∙ settled n _ (omega arith)
      (first_at g e power small L w (u ++ v) (h ++ z) n m b
      ∙ ap₂ (λ (a c : Residue p). Zp.add a (Zp.mul (of p (2 * g * half)) (Zp.mul (residues w n) c))) (residues_front (2 * g) h z lh n (omega arith))
      (ap₂ (λ (a c : Residue p). Zp.add (Zp.mul (residues w n) a) (Zp.neg (Zp.mul (residues w m) c))) (residues_front (2 * g) u v lu n (omega arith))
      (residues_front (2 * g) u v lu m (omega arith)))
      ∙ sym (of_gain (entry h n) (2 * g * half) (entry w n) (entry w n * entry u n + minus_one * (entry w m * entry u m))
      (of_add p above (entry w n * entry u n) (minus_one * (entry w m * entry u m))
      ∙ ap₂ Zp.add (of_mul p above (entry w n) (entry u n)) (of_minus (entry w m * entry u m) ∙ ap Zp.neg (of_mul p above (entry w m) (entry u m))))))

  second_entry : (n m : ℕ) → n + suc m ≡ 2 * g
      → entry (drop (2 * g) block) n
      ≡ (entry z n + 2 * g * half * (entry w (2 * g + n) * (entry w (2 * g + n) * entry v n + entry w (2 * g + m) * entry v m))) % p
  second_entry n m b =
      get_or-drop (2 * g) block n 0
      ∙ settled (2 * g + n) _ (omega arith)
      (second_at g e power small L w (u ++ v) (h ++ z) n m b
      ∙ ap₂ (λ (a c : Residue p). Zp.add a (Zp.mul (of p (2 * g * half)) (Zp.mul (residues w (2 * g + n)) c))) (residues_after (2 * g) h z lh n)
      (ap₂ (λ (a c : Residue p). Zp.add (Zp.mul (residues w (2 * g + n)) a) (Zp.mul (residues w (2 * g + m)) c)) (residues_after (2 * g) u v lu n) (residues_after (2 * g) u v lu m))
      ∙ sym (of_gain (entry z n) (2 * g * half) (entry w (2 * g + n)) (entry w (2 * g + n) * entry v n + entry w (2 * g + m) * entry v m)
      (of_add p above (entry w (2 * g + n) * entry v n) (entry w (2 * g + m) * entry v m)
      ∙ ap₂ Zp.add (of_mul p above (entry w (2 * g + n)) (entry v n)) (of_mul p above (entry w (2 * g + m)) (entry v m)))))

-- N is twice 2^e
halved : (N e : ℕ) → N ≡ 2 ^ suc e → N ≡ 2 * 2 ^ e
halved N e size = size ∙ omega (arith, Nat.two-pow-succ e)

-- the first output: what it holds, and N/2 · w_n (w_n u_n − w_{N−1−n} u_{N−1−n})
pub block_first : (N m : ℕ) → m ≤ 10 → N ≡ 2 ^ m → 2 ≤ N → (w h z u v : List ℕ) → length h ≡ N → length u ≡ N → (n : ℕ) → n < N
    → entry (take N (imdct_sum N w (h ++ z) (mdct_sum N w (u ++ v)))) n
    ≡ (entry h n + N * half * (entry w n * (entry w n * entry u n + minus_one * (entry w (N - 1 - n) * entry u (N - 1 - n))))) % p
block_first N zero small size least w h z u v = absurd (Nat.lt_irrefl 0 (omega (arith, Nat.pow-zero 2)))
block_first N (suc e) small size least w h z u v =
    subst
    (λ (N : ℕ). length h ≡ N → length u ≡ N → (n : ℕ) → n < N
    → entry (take N (imdct_sum N w (h ++ z) (mdct_sum N w (u ++ v)))) n
    ≡ (entry h n + N * half * (entry w n * (entry w n * entry u n + minus_one * (entry w (N - 1 - n) * entry u (N - 1 - n))))) % p)
    (sym (halved N e size))
    (λ lh lu n l.
    first_entry (2 ^ e) (suc e) (sym (halved N e size) ∙ size) small (type4_length e (omega arith)) w h z u v lh lu n (2 * 2 ^ e - 1 - n) (omega arith))

-- the second: what it holds, and N/2 · w_{N+n} (w_{N+n} v_n + w_{2N−1−n} v_{N−1−n})
pub block_second : (N m : ℕ) → m ≤ 10 → N ≡ 2 ^ m → 2 ≤ N → (w h z u v : List ℕ) → length h ≡ N → length u ≡ N → (n : ℕ) → n < N
    → entry (drop N (imdct_sum N w (h ++ z) (mdct_sum N w (u ++ v)))) n
    ≡ (entry z n + N * half * (entry w (N + n) * (entry w (N + n) * entry v n + entry w (2 * N - 1 - n) * entry v (N - 1 - n)))) % p
block_second N zero small size least w h z u v = absurd (Nat.lt_irrefl 0 (omega (arith, Nat.pow-zero 2)))
block_second N (suc e) small size least w h z u v =
    subst
    (λ (N : ℕ). length h ≡ N → length u ≡ N → (n : ℕ) → n < N
    → entry (drop N (imdct_sum N w (h ++ z) (mdct_sum N w (u ++ v)))) n
    ≡ (entry z n + N * half * (entry w (N + n) * (entry w (N + n) * entry v n + entry w (2 * N - 1 - n) * entry v (N - 1 - n)))) % p)
    (sym (halved N e size))
    (λ lh lu n l.
    let place : 2 * 2 ^ e + (2 * 2 ^ e - 1 - n) ≡ 2 * (2 * 2 ^ e) - 1 - n = omega arith in
    second_entry (2 ^ e) (suc e) (sym (halved N e size) ∙ size) small (type4_length e (omega arith)) w h z u v lh lu n (2 * 2 ^ e - 1 - n) (omega arith)
    ∙ ap
    (λ (k : ℕ).
    (entry z n + 2 * 2 ^ e * half * (entry w (2 * 2 ^ e + n) * (entry w (2 * 2 ^ e + n) * entry v n + entry w k * entry v (2 * 2 ^ e - 1 - n)))) % p)
    place)
