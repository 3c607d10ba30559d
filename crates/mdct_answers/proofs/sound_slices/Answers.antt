-- `mdct_answers::sound_slices` meets its contract: all slices are sound exactly where each is. Assumes nothing.
use mathlib.Core.List.{List}
use mathlib.Core.Path.{◌∙◌}
use Prim.Native.Nat.{ℕ}
use borrow.Author.Tests.{tests}
use denote.Bor.{Bor}
use Rattle.std.proofs.Common.{rules}
use Rattle.std.proofs.lemmas.Iterator.{YieldsList-from_slice}
use Rattle.std.proofs.lemmas.Iterator.Search.{all_from_yields_List}
use Rattle.sums.specs.Bad.{sound_entries}
use Rattle.mdct_answers.proofs.Searched.{each_sound}
use Rattle.mdct_answers.proofs.sound_slices.Goals as goal

pub returns : goal.returns
returns c =
    all_from_yields_List (λ (slice : Bor (List ℕ)). sound_entries slice.now) _ _ c.all.result c.all.ensures.ran (YieldsList-from_slice c.args.slices.now cc)
    (λ slice b q k. search (rules, tests))
    ∙ each_sound (λ (slice : Bor (List ℕ)). slice.now) c.args.slices.now
