use Rattle.std.proofs.Common.{◌≡◌, ℕ, ◌+◌, ◌-◌, ◌≤◌, List, ◌++◌, rules, length, take, drop, sym, ap, ◌∙◌, subst, le_refl, drop_at, length-take-le}
use Rattle.std.proofs.lemmas.Slice.{take-put_mid_below}
use Rattle.std.specs.Io.KnownBytes.{Consumes}
use Rattle.std.proofs.KnownBytes.{Consumes-trans}
use borrow.Rule.Slice.PartMut.{put_mid, post_of}
use lib.Seq.{take-add, take-append-le}
use Rattle.float_run.proofs.input.read_full.Goals as goal

-- a slice was filled up to a, and n entries more were written from there
filled_on : (a k n : ℕ) (xs ys : List ℕ) → a ≤ length xs → n ≤ length ys → take (a + n) (put_mid a k xs ys) ≡ take a xs ++ take n ys
filled_on a k n xs ys within fits =
    let after = post_of a k xs in
    let front = take-put_mid_below a k xs ys a (le_refl a) within in
    let rest = ap (take n) (drop_at (take a xs) (ys ++ after) a (length-take-le a xs within)) ∙ take-append-le n ys after fits in
    take-add a n (put_mid a k xs ys) ∙ ap (λ l. l ++ take n (drop a (put_mid a k xs ys))) front ∙ ap (λ l. take a xs ++ l) rest

pub loop-read-preserved : goal.loop-read-preserved
loop-read-preserved g c =
    let before = c.loop-read.invariant in
    let read = c.in_ok-more.ensures in
    let room = length c.loop-read.bytes - c.loop-read.read in (
      search rules,
      subst (Consumes _ _)
          (sym (filled_on c.loop-read.read room c.in_ok-more.more c.loop-read.bytes c.read.new.buf before.0 read.bound.0))
          (Consumes-trans _ _ _ _ _ before.1 read.bytes.0),
    )
