-- Two transforms in place, one after the other, of the calls' outcomes: where both are done they leave what both make of the buffer (turns_done); where the first is refused,
-- nothing has changed (turns_refused). Assumes nothing.
use mathlib.Core.List.{List, []}
use mathlib.Core.Path.{◌≡◌, refl, sym, ◌∙◌, ap, ap₂}
use Prim.Native.Nat.{ℕ, ◌^◌, ◌≤◌}
use native.Mathlib.Omega.{arith}
use lib.ListN.{length, drop, replicate, length-append, length-replicate}
use Rattle.answers.specs.Said.{Said, accepted, refused}
use Rattle.ring.specs.Part.{cleared}
use Rattle.sums.specs.Call.{Outcome, outcome, outcome_of, in_place_answer, in_place}
use Rattle.sums.specs.Residue.{Residues}
use Rattle.lending.specs.Accepted.{Accepted}
use Rattle.lending.proofs.Accepted.{in_place_accepted, accepted_answered}
use Rattle.lending.proofs.Front.{cleared_again}

-- at every allowed length the second after the first is `both`, and the first leaves as many entries, all residues
pub record InTurn (first second both : List ℕ → List ℕ) : Type 0 where
  pub as_many : (x : List ℕ) → length (first x) ≡ length x
  pub residues : (x : List ℕ) → Residues (first x)
  pub is : (e : ℕ) → e ≤ 10 → (x : List ℕ) → length x ≡ 2 ^ e → second (first x) ≡ both x

-- the answer of an outcome is the one it was made by
answer_is : (f : List ℕ → List ℕ) (n : ℕ) (b s : List ℕ) (a : Said) → (outcome_of 0 f n b s a).answer ≡ a
answer_is f n b s (accepted values) = refl
answer_is f n b s (refused number values) = refl

zeros_length : (n : ℕ) → length {A = ℕ} (replicate n 0) ≡ n
zeros_length n = length-replicate {A = ℕ} n 0

-- what was answered, of an outcome that is known
answered : (f : List ℕ → List ℕ) (least n : ℕ) (b s : List ℕ) {said₁ : Said} {b₁ s₁ : List ℕ} → outcome said₁ b₁ s₁ ≡ in_place least f n b s
    → said₁ ≡ in_place_answer least n b (length s)
answered f least n b s there = ap (λ (o : Outcome ℕ). o.answer) there ∙ answer_is f n b s (in_place_answer least n b (length s))

module _ {first second both : List ℕ → List ℕ} (turns : InTurn first second both) (least n : ℕ) (b s : List ℕ) {b₁ s₁ : List ℕ} where
  -- a refusal does not depend on the transform
  pub turns_refused : (number : ℕ) (values : List ℕ) → outcome (refused number values) b₁ s₁ ≡ in_place least first n b s
      → outcome (refused number values) b₁ s₁ ≡ in_place least both n b s
  turns_refused number values there =
      let asked = sym (answered first least n b s there) in
      there ∙ ap (outcome_of 0 first n b s) asked ∙ ap (outcome_of 0 both n b s) (sym asked)

  module _ (there : outcome (accepted []) b₁ s₁ ≡ in_place least first n b s) where
    asked : in_place_answer least n b (length s) ≡ accepted []
    asked = sym (answered first least n b s there)

    left : outcome (accepted []) b₁ s₁ ≡ outcome (accepted []) (first b) (cleared 0 n s)
    left = there ∙ ap (outcome_of 0 first n b s) asked

    passed : Accepted least n b (length s)
    passed = in_place_accepted least n b (length s) (sym asked)

    -- what the first leaves is accepted again
    again : Accepted least n (first b) (length (cleared 0 n s))
    again = record {
      exponent = passed.exponent;
      small = passed.small;
      power = passed.power;
      enough = passed.enough;
      whole = turns.as_many b ∙ passed.whole;
      room = omega (arith, length-append (replicate n 0) (drop n s), zeros_length n);
      residues = turns.residues b;
    }

    pub turns_done : {said₂ : Said} {b₂ s₂ : List ℕ} → outcome said₂ b₂ s₂ ≡ in_place least second n b₁ s₁
        → outcome said₂ b₂ s₂ ≡ in_place least both n b s
    turns_done back =
        back
        ∙ ap₂ (in_place least second n) (ap (λ (o : Outcome ℕ). o.buffer) left) (ap (λ (o : Outcome ℕ). o.scratch) left)
        ∙ ap (outcome_of 0 second n (first b) (cleared 0 n s)) (accepted_answered again)
        ∙ ap₂ (outcome (accepted [])) (turns.is passed.exponent passed.small b (passed.whole ∙ passed.power))
        (cleared_again n (replicate n 0) s (zeros_length n) 0)
        ∙ ap (outcome_of 0 both n b s) (sym asked)
