-- Over residues: an angle sum of cosines that begins with 0 is the sum of its terms, reduced once (cosines_sum), and the naive transforms, which read either the cosines or the sines
-- alone, are the defining sums of document 01 (dct2_reads, dst2_reads, dct3_reads, dst3_reads, dct4_reads). What the odd cosines of a turn of 4n places read is the table of a naive MDCT
-- of n (odd_cosines_read). Assumes nothing.
use mathlib.Core.Path.{◌≡◌, sym, ◌∙◌, ap}
use mathlib.Core.List.{List}
use Prim.Native.Nat.{ℕ, ◌+◌, ◌*◌, ◌%◌, ◌/◌, ◌≤◌}
use native.Mathlib.Nat as Nat
use native.Mathlib.Omega.{arith}
use lib.ListN.{length}
use Rattle.ring.proofs.Table.{tab_ext}
use Rattle.ring.proofs.Terms.{terms_ext}
use Rattle.sums.specs.Residue.{p}
use Rattle.sums.specs.Angle.{cos_turn, sin_turn}
use Rattle.sums.specs.Transform.{sum, entry, dct2_sum, dst2_sum, dct3_sum, dst3_sum, dct4_sum}
use Rattle.sums.proofs.Lengths.{Length}
use Rattle.sums.proofs.Turns.{cos_remainder, cos_units_is}
use Rattle.algorithms.specs.Residues.{residue_ops}
use Rattle.algorithms.specs.Naive.{naive_dct2, naive_dst2, naive_dct3, naive_dst3}
use Rattle.algorithms.proofs.Block.{block_cosines}
use Rattle.algorithms.proofs.Naive.{reduced_sum, naive_dct2_is, naive_dst2_is, naive_dct3_is, naive_dst3_is}
use Rattle.naive_sums.specs.Circled.{read_twiddles, read_table}
use Rattle.naive_sums.specs.AngleSums.{angle_sum, angle_sums}
use Rattle.naive_sums.specs.Ready.{Tabled}

pub cosines_sum : (turn : ℕ) → 8192 / turn * turn ≡ 8192 → (x : List ℕ) (first step : ℕ)
    → angle_sum residue_ops cos_turn turn x 0 first step ≡ sum (length x) (λ i. entry x i * cos_turn (first + i * step) turn) % p
unfolding angle_sum
cosines_sum turn whole x first step =
    reduced_sum (length x) (λ i. entry x i * cos_turn (first + i * step) turn) _
    (λ i below. ap (λ (c : ℕ). entry x i * c % p) (cos_remainder turn whole (first + i * step)))

module _ {table x out : List ℕ} {unit : ℕ} (ready : Tabled 4 unit table x out) where
  quarter : Length (length x)
  quarter =
      let turn : 8192 / length table * (unit * (4 * length x)) ≡ 8192 =
      ap (λ (n : ℕ). 8192 / length table * n) ready.whole ∙ ready.powers.whole in
      record { step = 8192 / length table * unit; whole = four (8192 / length table) unit (length x) turn }
    where
      four : (s u n : ℕ) → s * (u * (4 * n)) ≡ 8192 → s * u * n ≡ 2048
      four s u n turn = omega (arith, turn)

  pub dct2_reads : naive_dct2 residue_ops (read_twiddles cos_turn) x ≡ dct2_sum x
  unfolding naive_dct2
  dct2_reads = naive_dct2_is x quarter

  pub dst2_reads : naive_dst2 residue_ops (read_twiddles sin_turn) x ≡ dst2_sum x
  unfolding naive_dst2
  dst2_reads = naive_dst2_is x quarter

  pub dct3_reads : naive_dct3 residue_ops (read_twiddles cos_turn) x ≡ dct3_sum x
  unfolding naive_dct3
  dct3_reads = naive_dct3_is x quarter

  pub dst3_reads : naive_dst3 residue_ops (read_twiddles sin_turn) x ≡ dst3_sum x
  unfolding naive_dst3
  dst3_reads = naive_dst3_is x quarter

module _ {table x out : List ℕ} {unit : ℕ} (ready : Tabled 8 unit table x out) where
  pub dct4_reads : angle_sums residue_ops cos_turn (length table) (length out) x 0 unit (2 * unit) (2 * unit) (4 * unit) ≡ dct4_sum x
  unfolding dct4_sum angle_sums
  dct4_reads =
      rw ready.same
      (tab_ext (length x) (λ k _. cosines_sum (length table) ready.powers.whole x _ _
      ∙ ap (λ (s : ℕ). s % p) (terms_ext ◌+◌ 0 (length x) (λ i _. ap (λ (c : ℕ). entry x i * c) (place ((2 * i + 1) * (2 * k + 1)) _ (omega arith))))))
    where
      place : (a b : ℕ) → b ≡ a * unit → cos_turn b (length table) ≡ cos_turn a (8 * length x)
      place a b is =
          ap (λ (z : ℕ). cos_turn z (length table)) is
          ∙ sym (cos_units_is (length table) ready.powers.whole unit (8 * length x) ready.whole a)

pub odd_cosines_read : (n : ℕ) → 1 ≤ n → read_table (λ a b. cos_turn (2 * (a * (4 * n / b)) + 1) (2 * (4 * n))) (4 * n) ≡ block_cosines n
odd_cosines_read n some =
    tab_ext (4 * n)
    (λ i _. ap (λ (a : ℕ). cos_turn (2 * a + 1) (2 * (4 * n))) (ap (λ (q : ℕ). i * q) one ∙ Nat.mul-one i) ∙ ap (cos_turn (2 * i + 1)) whole)
  where
    one : 4 * n / (4 * n) ≡ 1
    one = Nat.div_self (omega arith)

    whole : 2 * (4 * n) ≡ 8 * n
    whole = omega arith
