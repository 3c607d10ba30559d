use Rattle.std.proofs.Common.{◌≡◌, arith, refl, ap₂, ◌∙◌, length}
use Rattle.std.proofs.lemmas.List.{length_push, get_or-take}
use Rattle.std.proofs.Math.ListN.{take}
use Rattle.std.proofs.Math.Seq.{length-take-le}
use Rattle.std.proofs.lemmas.Slice.Zip.{zip_turn, zip_end}
use Rattle.places.proofs.Walked.{walked_none, walked_more, walked_all}
use Rattle.mdct_naive.specs.Sums.{windowed_sum}
use Rattle.mdct_naive.proofs.windowed_sum.Goals as goal

pub loop-entry-init : goal.loop-entry-init
loop-entry-init g c = record {
  walked = walked_none _ _ _ _ _ _ _ c.requires.sum.first_below refl;
  number = c.requires.sum.begins;
}

pub times-requires : goal.times-requires
times-requires g c =
    let none = g.T.Number.ops.none in
    let front = take (length c.args.x.now) c.args.window.now in
    let here = zip_turn c.args.x.now front c.loop-entry.yielded _ c.loop-entry.entry-iterator c.next.new.self _ (cc) (cc) c.loop-entry.yielded_by
    (c.in-Some.entry, c.in-Some.weight) c.in-Some.is c.next.ensures.steps in (
      rw (here.2 none) (c.requires.sum.numbers.each (length c.loop-entry.yielded) here.0),
      rw (here.3 none, get_or-take (length c.args.x.now) c.args.window.now _ none here.0)
          (c.requires.weights.each (length c.loop-entry.yielded) (omega (arith, here.0, c.requires.weighed))),
    )

pub added-sum-requires : goal.added-sum-requires
added-sum-requires g c = (
  c.loop-entry.invariant.number,
  rw c.times.ensures (g.met.T.Number.closed.mul _ _),
  rw c.at.ensures (g.met.C.Circle.circled.number _ _ _),
)

pub loop-entry-preserved : goal.loop-entry-preserved
loop-entry-preserved g c =
    let O = g.T.Number.ops in
    let front = take (length c.args.x.now) c.args.window.now in
    let here = zip_turn c.args.x.now front c.loop-entry.yielded _ c.loop-entry.entry-iterator c.next.new.self _ (cc) (cc) c.loop-entry.yielded_by
    (c.in-Some.entry, c.in-Some.weight) c.in-Some.is c.next.ensures.steps in
    let product = c.times.ensures ∙ ap₂ O.mul (here.2 O.none) (here.3 O.none ∙ get_or-take (length c.args.x.now) c.args.window.now _ O.none here.0) in record {
      walked = rw (length_push c.loop-entry.yielded (c.in-Some.entry, c.in-Some.weight))
          (walked_more c.loop-entry.invariant.walked here.0 (c.added-sum.ensures ∙ ap₂ (λ v u. O.add c.loop-entry.sum (O.mul v u)) product c.at.ensures)
          (rw c.len.ensures at c.further-at.ensures));
      number = rw c.added-sum.ensures (g.met.T.Number.closed.add _ _);
    }

pub returns : goal.returns
unfolding windowed_sum
returns g c =
    let front = take (length c.args.x.now) c.args.window.now in
    let same : length front ≡ length c.args.x.now = length-take-le (length c.args.x.now) c.args.window.now c.requires.weighed in
    let all = zip_end c.args.x.now front c.loop-entry.yielded _ c.loop-entry.entry-iterator c.next.new.self _ (cc) (cc) c.loop-entry.yielded_by
    c.in-None.is c.next.ensures.steps in
    walked_all c.loop-entry.invariant.walked (omega (arith, all, same))
