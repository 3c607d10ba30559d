-- Document 01, "What a customer may hold us to": a promise allows one outcome only. For each form of promise: two runs that meet it on the same input, for which the
-- promise is the same, have the same answer and leave the same entries in every slice that is lent for writing. In Rattle: answer_only, outcome_only, spread_only;
-- in C: returned_answer_only, returned_only, returned_spread_only. Assumes nothing.
use mathlib.Core.Path.{◌≡◌, sym, ◌∙◌, ap}
use mathlib.Core.List.{List}
use Prim.Native.Nat.{ℕ}
use Rattle.std.specs.Prelude.{Result}
use Rattle.answers.specs.declared.Refusal.{Refusal}
use Rattle.answers.specs.Said.{Said, says, said_number}
use Rattle.answers.proofs.Apart.{says_apart}
use Rattle.sums.specs.Call.{Outcome, outcome, Spread, spread}
use Rattle.sums.specs.Returned.{Returned, ReturnedSpread, ReturnedAnswer}

-- a call that stores nothing
pub answer_only : {a b : Result (Unit {0}) Refusal} {promised : Said} → says a ≡ promised → says b ≡ promised → a ≡ b
answer_only {a} {b} one other = says_apart a b (one ∙ sym other)

module _ {A : Type 0} where
  -- a call that writes one slice and its scratch
  pub outcome_only : {a b : Result (Unit {0}) Refusal} {buffer buffer' scratch scratch' : List A} {promised : Outcome A}
      → outcome (says a) buffer scratch ≡ promised → outcome (says b) buffer' scratch' ≡ promised
      → (a ≡ b) × (buffer ≡ buffer') × (scratch ≡ scratch')
  outcome_only {a} {b} one other =
      let same = one ∙ sym other in (
        says_apart a b (ap (λ (o : Outcome A). o.answer) same),
        ap (λ (o : Outcome A). o.buffer) same,
        ap (λ (o : Outcome A). o.scratch) same,
      )

  -- a call that writes two slices and its scratch
  pub spread_only : {a b : Result (Unit {0}) Refusal} {first first' second second' scratch scratch' : List A} {promised : Spread A}
      → spread (says a) first second scratch ≡ promised → spread (says b) first' second' scratch' ≡ promised
      → (a ≡ b) × (first ≡ first') × (second ≡ second') × (scratch ≡ scratch')
  spread_only {a} {b} one other =
      let same = one ∙ sym other in (
        says_apart a b (ap (λ (o : Spread A). o.answer) same),
        ap (λ (o : Spread A). o.first) same,
        ap (λ (o : Spread A). o.second) same,
        ap (λ (o : Spread A). o.scratch) same,
      )

  -- the same in C, where the number is returned
  pub returned_only : {m n : ℕ} {buffer buffer' scratch scratch' : List A} {promised : Outcome A}
      → Returned m buffer scratch promised → Returned n buffer' scratch' promised
      → (m ≡ n) × (buffer ≡ buffer') × (scratch ≡ scratch')
  returned_only one other =
      let same = one.left ∙ sym other.left in (
        one.numbered ∙ ap (λ (o : Outcome A). said_number o.answer) same ∙ sym other.numbered,
        ap (λ (o : Outcome A). o.buffer) same,
        ap (λ (o : Outcome A). o.scratch) same,
      )

  pub returned_spread_only : {m n : ℕ} {first first' second second' scratch scratch' : List A} {promised : Spread A}
      → ReturnedSpread m first second scratch promised → ReturnedSpread n first' second' scratch' promised
      → (m ≡ n) × (first ≡ first') × (second ≡ second') × (scratch ≡ scratch')
  returned_spread_only one other =
      let same = one.left ∙ sym other.left in (
        one.numbered ∙ ap (λ (o : Spread A). said_number o.answer) same ∙ sym other.numbered,
        ap (λ (o : Spread A). o.first) same,
        ap (λ (o : Spread A). o.second) same,
        ap (λ (o : Spread A). o.scratch) same,
      )

pub returned_answer_only : {m n : ℕ} {promised : Said} → ReturnedAnswer m promised → ReturnedAnswer n promised → m ≡ n
returned_answer_only one other =
    one.numbered ∙ ap said_number (one.left ∙ sym other.left) ∙ sym other.numbered
