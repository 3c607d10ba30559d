-- Document 01, "The tray": the overlapped IMDCTs of a curve's blocks are the curve again (curve_returns). What a block leaves in its second segment,
-- `leaves`, is what the next one needs to find there: it adds the rest. Assumes nothing.
use mathlib.Core.Path.{◌≡◌, sym, ◌∙◌, ap, ap₂, subst}
use mathlib.Core.List.{List, [], ◌∷◌, ◌++◌, append-nil}
use Prim.Native.Nat.{ℕ, zero, suc, ◌+◌, ◌*◌, ◌-◌, ◌^◌, ◌%◌, ◌<◌, ◌≤◌}
use native.Mathlib.Nat as Nat
use native.Mathlib.Omega.{arith}
use lib.Dec.{T}
use lib.ListN.{length, take, drop, length-drop, length-replicate, get_or-replicate, take-append-drop, drop_of_length-le}
use lib.Seq.{take_at, take_all, drop_at, get_or-take, get_or-drop, ext_get_or, length-take-le}
use Rattle.ring.proofs.Solve.{ring_from, var, :1, ◌:+◌, ◌:*◌, :-◌, given}
use Rattle.ring.proofs.Table.{length_tab, get_or_tab, is_tab}
use Rattle.ring.proofs.Modular.{Residue, of, of_add, of_mul, of_one, of_eq, mod_eq}
use Rattle.sums.specs.Residue.{p, half, minus_one, Residues}
use Rattle.sums.specs.Transform.{entry, outputs, mdct_sum, imdct_sum}
use Rattle.sums.specs.Size.{allowed_size}
use Rattle.sums.specs.Window.{accepted_window}
use Rattle.sums.specs.Curve.{quiet, blocks_after, blocks_of, overlapped, curve_of}
use Rattle.sums.proofs.Constants.{above, Zp, half_twice, of_minus}
use Rattle.sums.proofs.Outputs.{length_mdct, length_imdct}
use Rattle.sums.proofs.Windows.{Accepted, accepted_rules}
use Rattle.sums.proofs.Sizes.{allowed_exponent}
use Rattle.sums.proofs.Block.{block_first, block_second}

-- where N · (a² + b²) is 2, what a block leaves and what the next one adds, N/2 · b (b u + a v) and N/2 · a (a u − b v), are u together
cancelled : (N a b u v : ℕ) → N * (a * a + b * b) % p ≡ 2 → u < p
    → (N * half * (b * (b * u + a * v)) % p + N * half * (a * (a * u + minus_one * (b * v)))) % p ≡ u
cancelled N a b u v power below =
    Nat.mod-add-mod (N * half * (b * (b * u + a * v))) p (N * half * (a * (a * u + minus_one * (b * v)))) ∙ mod_eq p _ u together ∙ Nat.mod-eq_of_lt below
  where
    c : Residue p
    c = Zp.mul (of p N) (of p half)

    of_both : (x : ℕ) → of p (N * half * x) ≡ Zp.mul c (of p x)
    of_both x = of_mul p above (N * half) x ∙ ap (λ (r : Residue p). Zp.mul r (of p x)) (of_mul p above N half)

    of_power : Zp.mul (of p N) (Zp.add (Zp.mul (of p a) (of p a)) (Zp.mul (of p b) (of p b))) ≡ Zp.add Zp.one Zp.one
    of_power =
        sym (of_mul p above N (a * a + b * b) ∙ ap (Zp.mul (of p N)) (of_add p above (a * a) (b * b) ∙ ap₂ Zp.add (of_mul p above a a) (of_mul p above b b)))
        ∙ of_eq p (N * (a * a + b * b)) 2 power ∙ of_add p above 1 1 ∙ ap₂ Zp.add (of_one p above) (of_one p above)

    together : of p (N * half * (b * (b * u + a * v)) + N * half * (a * (a * u + minus_one * (b * v)))) ≡ of p u
    together =
        of_add p above (N * half * (b * (b * u + a * v))) (N * half * (a * (a * u + minus_one * (b * v))))
        ∙ ap₂ Zp.add
        (of_both (b * (b * u + a * v))
        ∙ ap (Zp.mul c)
        (of_mul p above b (b * u + a * v)
        ∙ ap (Zp.mul (of p b)) (of_add p above (b * u) (a * v) ∙ ap₂ Zp.add (of_mul p above b u) (of_mul p above a v))))
        (of_both (a * (a * u + minus_one * (b * v)))
        ∙ ap (Zp.mul c)
        (of_mul p above a (a * u + minus_one * (b * v))
        ∙ ap (Zp.mul (of p a))
        (of_add p above (a * u) (minus_one * (b * v))
        ∙ ap₂ Zp.add (of_mul p above a u) (of_minus (b * v) ∙ ap Zp.neg (of_mul p above b v)))))
        ∙ ring_from Zp (of p N ∷ of p half ∷ of p a ∷ of p b ∷ of p u ∷ of p v ∷ [])
        (given (var 1 :* var 4) (var 0 :* (var 2 :* var 2 :+ var 3 :* var 3)) (:1 :+ :1) of_power ∷ given (var 4) (var 1 :+ var 1) :1 half_twice ∷ [])
        (var 0 :* var 1 :* (var 3 :* (var 3 :* var 4 :+ var 2 :* var 5)) :+ var 0 :* var 1 :* (var 2 :* (var 2 :* var 4 :+ :- (var 3 :* var 5))))
        (var 4)
        tt

-- what the block that ends in the segment u leaves there: N/2 · w_{N+n} (w_{N+n} u_n + w_{2N−1−n} u_{N−1−n})
leaves : ℕ → List ℕ → List ℕ → List ℕ
leaves N w u =
    outputs N (λ n. N * half * (entry w (N + n) * (entry w (N + n) * entry u n + entry w (2 * N - 1 - n) * entry u (N - 1 - n))))

-- part of a list of residues
residues_take : (n : ℕ) (x : List ℕ) → n ≤ length x → Residues x → Residues (take n x)
residues_take n x fits r =
    record {
      below = λ k l.
          let inside : k < n = omega (arith, length-take-le n x (omega arith)) in
          subst (λ (v : ℕ). v < p) (sym (get_or-take n x k 0 inside)) (r.below k (omega arith));
    }

residues_drop : (n : ℕ) (x : List ℕ) → Residues x → Residues (drop n x)
residues_drop n x r =
    record { below = λ k l. subst (λ (v : ℕ). v < p) (sym (get_or-drop n x k 0)) (r.below (n + k) (omega (arith, length-drop n x))) }

module _ (N m : ℕ) (small : m ≤ 10) (size : N ≡ 2 ^ m) (enough : 2 ≤ N) (w : List ℕ) (accepted : Accepted N w) where
  length_leaves : (u : List ℕ) → length (leaves N w u) ≡ N
  unfolding leaves
  length_leaves u = length_tab N _

  -- under a symmetric window
  left_at : (u : List ℕ) (n : ℕ) → n < N
      → entry (leaves N w u) n ≡ N * half * (entry w (N + n) * (entry w (N + n) * entry u n + entry w n * entry u (N - 1 - n))) % p
  unfolding leaves
  left_at u n l =
      get_or_tab N _ n 0 l
      ∙ ap (λ (a : ℕ). N * half * (entry w (N + n) * (entry w (N + n) * entry u n + a * entry u (N - 1 - n))) % p)
      (accepted.symmetric (2 * N - 1 - n) n (omega arith))

  -- the next block adds to what is left, and the segment is done
  seam_done : (u v : List ℕ) → length u ≡ N → Residues u
      → take N (imdct_sum N w (leaves N w u ++ quiet N) (mdct_sum N w (u ++ v))) ≡ u
  seam_done u v lu ru =
      let block : List ℕ = imdct_sum N w (leaves N w u ++ quiet N) (mdct_sum N w (u ++ v)) in
      let whole : length (take N block) ≡ N =
      length-take-le N block (omega (arith, length_imdct N w (leaves N w u ++ quiet N) (mdct_sum N w (u ++ v)))) in
      ext_get_or 0 (take N block) u (whole ∙ sym lu) (λ n l. at n (subst (λ (k : ℕ). n < k) whole l))
    where
      at : (n : ℕ) → n < N → entry (take N (imdct_sum N w (leaves N w u ++ quiet N) (mdct_sum N w (u ++ v)))) n ≡ entry u n
      at n l =
          block_first N m small size enough w (leaves N w u) (quiet N) u v (length_leaves u) lu n l
          ∙ ap₂ (λ (h b : ℕ). (h + N * half * (entry w n * (entry w n * entry u n + minus_one * (b * entry u (N - 1 - n))))) % p) (left_at u n l)
          (accepted.symmetric (N - 1 - n) (N + n) (omega arith))
          ∙ cancelled N (entry w n) (entry w (N + n)) (entry u n) (entry u (N - 1 - n)) (accepted.power n l) (ru.below n (omega arith))

  -- and leaves in a zero segment what it leaves
  seam_left : (h u v : List ℕ) → length h ≡ N → length u ≡ N
      → drop N (imdct_sum N w (h ++ quiet N) (mdct_sum N w (u ++ v))) ≡ leaves N w v
  unfolding leaves
  seam_left h u v lh lu =
      is_tab 0 _ N (length-drop N (imdct_sum N w (h ++ quiet N) (mdct_sum N w (u ++ v))) ∙ omega (arith, length_imdct N w (h ++ quiet N) (mdct_sum N w (u ++ v))))
      (λ n l.
      block_second N m small size enough w h (quiet N) u v lh lu n l
      ∙ ap (λ (z : ℕ). (z + N * half * (entry w (N + n) * (entry w (N + n) * entry v n + entry w (2 * N - 1 - n) * entry v (N - 1 - n)))) % p)
      (get_or-replicate N n 0 0 l)
      ∙ ap (λ (z : ℕ). z % p) (Nat.zero-add _))

  -- a zero segment leaves zero
  quiet_leaves : quiet N ≡ leaves N w (quiet N)
  unfolding leaves
  quiet_leaves =
      is_tab 0 (quiet N) N (length-replicate N 0)
      (λ n l.
      get_or-replicate N n 0 0 l
      ∙ sym (ap₂ (λ (u v : ℕ). N * half * (entry w (N + n) * (entry w (N + n) * u + entry w (2 * N - 1 - n) * v)) % p) (get_or-replicate N n 0 0 l)
      (get_or-replicate N (N - 1 - n) 0 0 (omega arith))
      ∙ ap (λ (z : ℕ). z % p) (nothing (entry w (N + n)) (entry w (2 * N - 1 - n)))))
    where
      nothing : (b a : ℕ) → N * half * (b * (b * 0 + a * 0)) ≡ 0
      nothing b a = omega arith

  -- from the segment before on
  returns_after : (S : ℕ) (before x : List ℕ) → length before ≡ N → Residues before → length x ≡ S * N → Residues x
      → overlapped N w (suc S) (leaves N w before) (blocks_after N w S before x) ≡ before ++ x
  unfolding overlapped blocks_after
  returns_after zero before x lb rb lx rx =
      let none : x ≡ [] = drop_of_length-le x {i = 0} (omega arith) in
      append-nil _
      ∙ ap (λ (X : List ℕ). take N (imdct_sum N w (leaves N w before ++ quiet N) X)) (take_all N _ (omega (arith, length_mdct N w (before ++ quiet N))))
      ∙ seam_done before (quiet N) lb rb
      ∙ sym (append-nil before) ∙ ap (λ (y : List ℕ). before ++ y) (sym none)
  returns_after (suc S) before x lb rb lx rx =
      let block : List ℕ = mdct_sum N w (before ++ take N x) in
      let rest : List ℕ = blocks_after N w S (take N x) (drop N x) in
      let fits : length (take N x) ≡ N = length-take-le N x (omega arith) in
      ap₂ (λ (X Y : List ℕ). take N (imdct_sum N w (leaves N w before ++ quiet N) X) ++ overlapped N w (suc S) (drop N (imdct_sum N w (leaves N w before ++ quiet N) X)) Y)
      (take_at block rest N (length_mdct N w (before ++ take N x))) (drop_at block rest N (length_mdct N w (before ++ take N x)))
      ∙ ap₂ (λ (done held : List ℕ). done ++ overlapped N w (suc S) held rest) (seam_done before (take N x) lb rb)
      (seam_left (leaves N w before) before (take N x) (length_leaves before) lb)
      ∙ ap (λ (y : List ℕ). before ++ y)
      (returns_after S (take N x) (drop N x) fits (residues_take N x (omega arith) rx) (omega (arith, length-drop N x)) (residues_drop N x rx) ∙ take-append-drop N x)

  returns : (S : ℕ) (x : List ℕ) → length x ≡ S * N → Residues x → curve_of N S w (blocks_of N S w x) ≡ x
  unfolding curve_of blocks_of
  returns S x lx rx =
      ap (λ (held : List ℕ). drop N (overlapped N w (suc S) held (blocks_after N w S (quiet N) x))) quiet_leaves
      ∙ ap (drop N) (returns_after S (quiet N) x (length-replicate N 0) quiet_residues lx rx) ∙ drop_at (quiet N) x N (length-replicate N 0)
    where
      quiet_residues : Residues (quiet N)
      quiet_residues =
          record { below = λ k l. subst (λ (v : ℕ). v < p) (sym (get_or-replicate N k 0 0 (subst (λ (m : ℕ). k < m) (length-replicate N 0) l))) above }

-- the blocks of a curve give the curve back, at every allowed size and under every accepted window
pub curve_returns : (N S : ℕ) (w x : List ℕ) → T (allowed_size 2 N) → T (accepted_window N w) → length x ≡ S * N → Residues x
    → curve_of N S w (blocks_of N S w x) ≡ x
curve_returns N S w x size accepted long r =
    let found = allowed_exponent 2 N size in
    returns N found.0 found.1 found.2 found.3 w (accepted_rules N w accepted) S x long r
