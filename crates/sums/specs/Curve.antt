-- Document 01, "The tray": the blocks of a curve, the curve that blocks give, one entry of it, and sums of both. A curve of S segments of N entries is a
-- list of S · N, its S + 1 blocks a list of (S + 1) · N. Assumes nothing.
use Rattle.std.specs.Prelude.{List, [], ◌∷◌, ◌++◌, map, ℕ, zero, suc, ◌+◌, ◌*◌, ◌%◌, get_or, take, drop, replicate, ℤ, pos, ◌+ℤ◌}
use Rattle.sums.specs.Residue.{p, minus_one}
use Rattle.sums.specs.Signed.{residue_of, signed_of}
use Rattle.sums.specs.Angle.{cos_turn}
use Rattle.sums.specs.Transform.{sum, entry, outputs, mdct_sum, imdct_sum}

-- a zero segment
abbrev pub quiet : ℕ → List ℕ
quiet N = replicate N 0

-- the MDCTs of neighbouring segments: of `before` and the first of the S segments x, and so on, with a zero segment after the last
unfoldable pub blocks_after : ℕ → List ℕ → ℕ → List ℕ → List ℕ → List ℕ
blocks_after N w zero before x = mdct_sum N w (before ++ quiet N)
blocks_after N w (suc S) before x = mdct_sum N w (before ++ take N x) ++ blocks_after N w S (take N x) (drop N x)

-- the blocks of S segments x, with a zero segment before the first as well
unfoldable pub blocks_of : ℕ → ℕ → List ℕ → List ℕ → List ℕ
blocks_of N S w x = blocks_after N w S (quiet N) x

-- the overlapped IMDCTs of n blocks X: each adds to the segment that is held, which is then done, and to a zero segment, which the next one holds. What
-- the last one leaves in the segment after it is dropped
unfoldable pub overlapped : ℕ → List ℕ → ℕ → List ℕ → List ℕ → List ℕ
overlapped N w zero held X = []
overlapped N w (suc n) held X =
    take N (imdct_sum N w (held ++ quiet N) (take N X)) ++ overlapped N w n (drop N (imdct_sum N w (held ++ quiet N) (take N X))) (drop N X)

-- the curve that the S + 1 blocks X give: their overlapped IMDCTs without the two padding segments
unfoldable pub curve_of : ℕ → ℕ → List ℕ → List ℕ → List ℕ
curve_of N S w X = drop N (overlapped N w (suc S) (quiet N) X)

-- segment t of a list of segments of N entries
abbrev pub segment : {A : Type 0} → ℕ → ℕ → List A → List A
segment N t x = take N (drop (t * N) x)

-- what the IMDCT of the block X adds at place n of its two segments: w_n Σ_k X_k cos(π(2n+1+N)(2k+1)/(4N))
unfoldable pub block_gives : ℕ → List ℕ → List ℕ → ℕ → ℕ
block_gives N w X n = entry w n * sum N (λ k. entry X k * cos_turn ((2 * n + 1 + N) * (2 * k + 1)) (8 * N))

-- what it leaves in the second of them, which was zero
unfoldable pub block_leaves : ℕ → List ℕ → List ℕ → List ℕ
block_leaves N w X = outputs N (λ n. block_gives N w X (N + n))

-- entry n of the segment in which the block X ends and the next one, Y, begins
unfoldable pub curve_entry : ℕ → List ℕ → List ℕ → List ℕ → ℕ → ℕ
curve_entry N w X Y n = (block_gives N w X (N + n) + block_gives N w Y n) % p

-- entry k of each list, added up
unfoldable pub total : List (List ℕ) → ℕ → ℕ
total [] k = 0
total (x ∷ rest) k = entry x k + total rest k

-- lists of n entries added up entry by entry, modulo p
unfoldable pub pooled : ℕ → List (List ℕ) → List ℕ
pooled n lists = outputs n (total lists)

-- the blocks of several shots of S segments, added up
unfoldable pub pooled_blocks : ℕ → ℕ → List ℕ → List (List ℕ) → List ℕ
pooled_blocks N S w shots = pooled (suc S * N) (map (blocks_of N S w) shots)

-- coefficients plus a shot's blocks, entry by entry modulo p: what adding leaves
unfoldable pub plus : ℕ → List ℕ → List ℕ → List ℕ
plus n x y = outputs n (λ k. entry x k + entry y k)

-- coefficients minus a shot's blocks, likewise: what withdrawing leaves
unfoldable pub minus : ℕ → List ℕ → List ℕ → List ℕ
minus n x y = outputs n (λ k. entry x k + minus_one * entry y k)

-- a shot's samples as residues, and the curve of blocks read as whole numbers
abbrev pub residues_of : List ℤ → List ℕ
residues_of = map residue_of

abbrev pub reading_of : ℕ → ℕ → List ℕ → List ℕ → List ℤ
reading_of N S w X = map signed_of (curve_of N S w X)

-- sample k of each shot, added up as whole numbers
unfoldable pub whole_total : List (List ℤ) → ℕ → ℤ
whole_total [] k = pos 0
whole_total (shot ∷ rest) k = get_or shot k (pos 0) +ℤ whole_total rest k
