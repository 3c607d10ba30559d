-- The list of what a circle reads: its entry at a place, whole turns taken off (read_at), and of a table of floats the table itself (entries_read). Assumes nothing.
use mathlib.Core.Path.{◌≡◌, sym, ◌∙◌, ap}
use mathlib.Core.List.{List}
use Prim.Native.Nat.{ℕ, ◌%◌, ◌≤◌}
use native.Mathlib.Nat as Nat
use native.Mathlib.Omega.{arith}
use lib.Ieee.{Float, nan}
use lib.ListN.{length, get_or}
use Rattle.ring.proofs.Table.{get_or_tab, is_tab}
use Rattle.floats.specs.Arithmetic.{turn_entry}
use Rattle.naive_sums.specs.Circled.{read_table}
use Rattle.naive_sums.specs.Circles.{turn_entry_at}

pub read_at : {A : Type 0} (z : A) (reads : ℕ → ℕ → A) {turn n : ℕ} → turn ≡ n → 1 ≤ n → (place : ℕ)
    → reads (place % turn) turn ≡ get_or (read_table reads n) (place % n) z
read_at z reads {n = n} same some place =
    ap (λ (m : ℕ). reads (place % m) m) same ∙ sym (get_or_tab n (λ i. reads i n) (place % n) z (Nat.mod-lt place some))

pub entries_read : (table : List Float) {n : ℕ} → length table ≡ n → 1 ≤ n → read_table (turn_entry table) n ≡ table
entries_read table {n} same some =
    sym (is_tab nan table n same (λ k _. turn_entry_at table k (omega arith) ∙ ap (turn_entry table k) same))
