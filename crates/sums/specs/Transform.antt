-- Document 01, "The sums", over residues: plain numbers, one `% p` outside. N is the length of the list x; indices run from 0. Assumes nothing.
use Rattle.std.specs.Prelude.{List, ℕ, suc, ◌+◌, ◌*◌, ◌-◌, ◌%◌, length, get_or}
use Rattle.ring.specs.Finite.{sum_of, tab}
use Rattle.sums.specs.Residue.{p, half}
use Rattle.sums.specs.Angle.{cos_turn, sin_turn}

-- Σ_{i<n} f i
abbrev pub sum : ℕ → (ℕ → ℕ) → ℕ
sum = sum_of ◌+◌ 0

-- x_i
abbrev pub entry : List ℕ → ℕ → ℕ
entry x i = get_or x i 0

-- the list of n entries f 0 mod p, f 1 mod p, ..
abbrev pub outputs : ℕ → (ℕ → ℕ) → List ℕ
outputs n f = tab n (λ k. f k % p)

-- DCT-II: X_k = Σ x_i cos(πk(2i+1)/(2N))
unfoldable pub dct2_sum : List ℕ → List ℕ
dct2_sum x = outputs (length x) (λ k. sum (length x) (λ i. entry x i * cos_turn (k * (2 * i + 1)) (4 * length x)))

-- DST-II: X_k = Σ x_i sin(π(k+1)(2i+1)/(2N))
unfoldable pub dst2_sum : List ℕ → List ℕ
dst2_sum x = outputs (length x) (λ k. sum (length x) (λ i. entry x i * sin_turn ((k + 1) * (2 * i + 1)) (4 * length x)))

-- DCT-III: X_k = x_0/2 + Σ_{i≥1} x_i cos(πi(2k+1)/(2N)); i is suc n, n + 1, here
unfoldable pub dct3_sum : List ℕ → List ℕ
dct3_sum x =
    outputs (length x)
    (λ k. entry x 0 * half + sum (length x - 1) (λ n. entry x (suc n) * cos_turn (suc n * (2 * k + 1)) (4 * length x)))

-- DST-III: X_k = Σ_{i<N−1} x_i sin(π(i+1)(2k+1)/(2N)) + x_{N−1}/2 · sin(π(2k+1)/2)
unfoldable pub dst3_sum : List ℕ → List ℕ
dst3_sum x =
    outputs (length x)
    (λ k.
    sum (length x - 1) (λ i. entry x i * sin_turn ((i + 1) * (2 * k + 1)) (4 * length x))
    + entry x (length x - 1) * half * sin_turn (2 * k + 1) 4)

-- DCT-IV: X_k = Σ x_i cos(π(2i+1)(2k+1)/(4N))
unfoldable pub dct4_sum : List ℕ → List ℕ
dct4_sum x = outputs (length x) (λ k. sum (length x) (λ i. entry x i * cos_turn ((2 * i + 1) * (2 * k + 1)) (8 * length x)))

-- DST-IV: the same with sin
unfoldable pub dst4_sum : List ℕ → List ℕ
dst4_sum x = outputs (length x) (λ k. sum (length x) (λ i. entry x i * sin_turn ((2 * i + 1) * (2 * k + 1)) (8 * length x)))

-- MDCT of two segments of N, which follow each other in the list x of 2N, under the window w:
-- X_k = Σ_{n<2N} w_n x_n cos(π(2n+1+N)(2k+1)/(4N))
unfoldable pub mdct_sum : ℕ → List ℕ → List ℕ → List ℕ
mdct_sum N w x =
    outputs N (λ k. sum (2 * N) (λ n. entry w n * entry x n * cos_turn ((2 * n + 1 + N) * (2 * k + 1)) (8 * N)))

-- IMDCT adds w_n Σ_k X_k cos(same angle) to what the two outputs, one after the other in the list held of 2N, already hold
unfoldable pub imdct_sum : ℕ → List ℕ → List ℕ → List ℕ → List ℕ
imdct_sum N w held X =
    outputs (2 * N)
    (λ n. entry held n + entry w n * sum N (λ k. entry X k * cos_turn ((2 * n + 1 + N) * (2 * k + 1)) (8 * N)))

-- what type 3 after type 2 leaves, and type 4 after type 4: x_l · N/2
unfoldable pub times_half_length : List ℕ → List ℕ
times_half_length x = outputs (length x) (λ l. length x * half * entry x l)
