-- Document 01, "The tray": segment t of the curve is made of the blocks t and t + 1 alone, whatever the other coefficients are. At any N, under any window.
-- What one block leaves: block_leaves_is. The length: length_curve. Segment t: curve_segment, curve_local. Its entries: curve_at, reading_at.
-- For a loop that writes segment after segment, by what is written and what is left: curve_begins, overlapped_steps, curve_ends. Assumes nothing.
use mathlib.Core.Path.{◌≡◌, sym, ◌∙◌, ap, ap₂}
use mathlib.Core.List.{List, ◌++◌, append_assoc, append-nil}
use Prim.Native.Nat.{ℕ, zero, suc, ◌+◌, ◌*◌, ◌%◌, ◌<◌}
use native.Mathlib.Nat as Nat
use native.Mathlib.Omega.{arith}
use lib.IntN.{pos}
use lib.ListN.{length, get_or, take, drop, length-append, length-drop, length-replicate, get_or-replicate, get_or-append, get_or-map}
use lib.Seq.{take_at, drop_at, drop-drop, get_or-take, get_or-drop, length-take-le}
use Rattle.ring.specs.Finite.{tab}
use Rattle.ring.proofs.Table.{length_tab, get_or_tab, is_tab}
use Rattle.sums.specs.Residue.{p}
use Rattle.sums.specs.Signed.{signed_of}
use Rattle.sums.specs.Transform.{entry, imdct_sum}
use Rattle.sums.specs.Curve.{quiet, overlapped, curve_of, segment, block_gives, block_leaves, curve_entry, reading_of}
use Rattle.sums.proofs.Outputs.{entry_after, length_imdct}

module _ (N : ℕ) (w : List ℕ) where
  imdct_at : (held X : List ℕ) (n : ℕ) → n < 2 * N → entry (imdct_sum N w held X) n ≡ (entry held n + block_gives N w X n) % p
  unfolding imdct_sum block_gives
  imdct_at held X n l = get_or_tab (2 * N) _ n 0 l

  length_leaves : (X : List ℕ) → length (block_leaves N w X) ≡ N
  unfolding block_leaves
  length_leaves X = length_tab N _

  length_first : (held X : List ℕ) → length (take N (imdct_sum N w held X)) ≡ N
  length_first held X = length-take-le N (imdct_sum N w held X) (omega (arith, length_imdct N w held X))

  -- what a block leaves does not depend on what was held before it
  pub block_leaves_is : (h X : List ℕ) → length h ≡ N → drop N (imdct_sum N w (h ++ quiet N) X) ≡ block_leaves N w X
  unfolding block_leaves
  block_leaves_is h X lh =
      is_tab 0 _ N (length-drop N (imdct_sum N w (h ++ quiet N) X) ∙ omega (arith, length_imdct N w (h ++ quiet N) X))
      (λ n l.
      get_or-drop N (imdct_sum N w (h ++ quiet N) X) n 0 ∙ imdct_at (h ++ quiet N) X (N + n) (omega arith)
      ∙ ap (λ (z : ℕ). (z + block_gives N w X (N + n)) % p) (entry_after N h (quiet N) lh n ∙ get_or-replicate N n 0 0 l)
      ∙ ap (λ (z : ℕ). z % p) (Nat.zero-add (block_gives N w X (N + n))))

  -- the next block adds to what is left, and the segment is done
  blocks_meet : (X Y : List ℕ) → take N (imdct_sum N w (block_leaves N w X ++ quiet N) Y) ≡ tab N (curve_entry N w X Y)
  unfolding block_leaves curve_entry
  blocks_meet X Y =
      let held : List ℕ = block_leaves N w X ++ quiet N in
      is_tab 0 _ N (length_first held Y)
      (λ n l.
      get_or-take N (imdct_sum N w held Y) n 0 l ∙ imdct_at held Y n (omega arith)
      ∙ ap (λ (z : ℕ). (z + block_gives N w Y n) % p)
      (get_or-append (block_leaves N w X) (quiet N) 0 n (omega (arith, length_leaves X)) ∙ get_or_tab N _ n 0 l)
      ∙ Nat.mod-add-mod (block_gives N w X (N + n)) p (block_gives N w Y n))

  length_overlapped : (n : ℕ) (held X : List ℕ) → length (overlapped N w n held X) ≡ n * N
  unfolding overlapped
  length_overlapped zero held X = omega arith
  length_overlapped (suc n) held X =
      let block : List ℕ = imdct_sum N w (held ++ quiet N) (take N X) in
      length-append (take N block) (overlapped N w n (drop N block) (drop N X))
      ∙ omega (arith, length_first (held ++ quiet N) (take N X), length_overlapped n (drop N block) (drop N X))

  pub length_curve : (S : ℕ) (X : List ℕ) → length (curve_of N S w X) ≡ S * N
  unfolding curve_of
  length_curve S X =
      length-drop N (overlapped N w (suc S) (quiet N) X) ∙ omega (arith, length_overlapped (suc S) (quiet N) X)

  module _ (X : List ℕ) where
    -- segment t, where the blocks t and t + 1 meet
    abbrev pub segment_done : ℕ → List ℕ
    segment_done t = take N (imdct_sum N w (block_leaves N w (segment N t X) ++ quiet N) (segment N (suc t) X))

    -- the n segments from segment t on, once block t is done
    abbrev pub segments_left : ℕ → ℕ → List ℕ
    segments_left n t = overlapped N w n (block_leaves N w (segment N t X)) (drop (suc t * N) X)

    pub curve_begins : (S : ℕ) → curve_of N S w X ≡ segments_left S 0
    unfolding curve_of overlapped
    curve_begins S =
        let block : List ℕ = imdct_sum N w (quiet N ++ quiet N) (take N X) in
        let none : 0 ≡ 0 * N = omega arith in
        let one : N ≡ 1 * N = omega arith in
        drop_at (take N block) (overlapped N w S (drop N block) (drop N X)) N (length_first (quiet N ++ quiet N) (take N X))
        ∙ ap₂ (overlapped N w S)
        (block_leaves_is (quiet N) (take N X) (length-replicate N 0) ∙ ap (λ (k : ℕ). block_leaves N w (take N (drop k X))) none)
        (ap (λ (k : ℕ). drop k X) one)

    overlapped_step : (n t : ℕ) → segments_left (suc n) t ≡ segment_done t ++ segments_left n (suc t)
    unfolding overlapped
    overlapped_step n t =
        let next : suc t * N + N ≡ suc (suc t) * N = omega arith in
        ap₂ (λ (held Y : List ℕ). segment_done t ++ overlapped N w n held Y)
        (block_leaves_is (block_leaves N w (segment N t X)) (segment N (suc t) X) (length_leaves (segment N t X)))
        (drop-drop N (suc t * N) X ∙ ap (λ (k : ℕ). drop k X) next)

    -- what is written and what is left: one segment more is written
    pub overlapped_steps : (n t : ℕ) (curve written : List ℕ) → curve ≡ written ++ segments_left (suc n) t
        → curve ≡ (written ++ segment_done t) ++ segments_left n (suc t)
    overlapped_steps n t curve written is =
        is ∙ ap (λ (y : List ℕ). written ++ y) (overlapped_step n t) ∙ sym (append_assoc written (segment_done t) (segments_left n (suc t)))

    pub curve_ends : (t : ℕ) (curve written : List ℕ) → curve ≡ written ++ segments_left 0 t → curve ≡ written
    unfolding overlapped
    curve_ends t curve written is = is ∙ append-nil written

    left_segment : (s n t : ℕ) → s < n → segment N s (segments_left n t) ≡ segment_done (s + t)
    left_segment s zero t l = absurd (Nat.not-suc-le-zero l)
    left_segment zero (suc n) t l =
        let none : 0 * N ≡ 0 = omega arith in
        let here : t ≡ 0 + t = omega arith in
        ap (λ (k : ℕ). take N (drop k (segments_left (suc n) t))) none ∙ ap (take N) (overlapped_step n t)
        ∙ take_at (segment_done t) (segments_left n (suc t)) N (length_first _ _) ∙ ap segment_done here
    left_segment (suc s) (suc n) t l =
        let first : suc s * N ≡ N + s * N = omega arith in
        let further : s + suc t ≡ suc s + t = omega arith in
        ap (λ (k : ℕ). take N (drop k (segments_left (suc n) t))) first ∙ ap (take N) (sym (drop-drop (s * N) N (segments_left (suc n) t)))
        ∙ ap (λ (y : List ℕ). segment N s (drop N y)) (overlapped_step n t)
        ∙ ap (segment N s) (drop_at (segment_done t) (segments_left n (suc t)) N (length_first _ _)) ∙ left_segment s n (suc t) (omega arith)
        ∙ ap segment_done further

    module _ (S t : ℕ) (inside : t < S) where
      pub curve_segment : segment N t (curve_of N S w X)
          ≡ take N (imdct_sum N w (block_leaves N w (segment N t X) ++ quiet N) (segment N (suc t) X))
      curve_segment = ap (segment N t) (curve_begins S) ∙ left_segment t S 0 inside ∙ ap segment_done (Nat.add-zero t)

      module _ (n : ℕ) (below : n < N) where
        pub curve_at : entry (curve_of N S w X) (t * N + n) ≡ curve_entry N w (segment N t X) (segment N (suc t) X) n
        curve_at =
            sym (get_or-take N (drop (t * N) (curve_of N S w X)) n 0 below ∙ get_or-drop (t * N) (curve_of N S w X) n 0)
            ∙ ap (λ (y : List ℕ). entry y n) (curve_segment ∙ blocks_meet (segment N t X) (segment N (suc t) X))
            ∙ get_or_tab N (curve_entry N w (segment N t X) (segment N (suc t) X)) n 0 below

        -- the same, read as a whole number
        pub reading_at : get_or (reading_of N S w X) (t * N + n) (pos 0) ≡ signed_of (curve_entry N w (segment N t X) (segment N (suc t) X) n)
        reading_at = get_or-map signed_of (curve_of N S w X) (t * N + n) 0 ∙ ap signed_of curve_at

  -- coefficients that agree in the blocks t and t + 1 give the same segment t
  pub curve_local : (X Y : List ℕ) (S t : ℕ) → t < S → segment N t X ≡ segment N t Y → segment N (suc t) X ≡ segment N (suc t) Y
      → segment N t (curve_of N S w X) ≡ segment N t (curve_of N S w Y)
  curve_local X Y S t inside here next =
      curve_segment X S t inside ∙ ap₂ (λ (A B : List ℕ). take N (imdct_sum N w (block_leaves N w A ++ quiet N) B)) here next
      ∙ sym (curve_segment Y S t inside)
