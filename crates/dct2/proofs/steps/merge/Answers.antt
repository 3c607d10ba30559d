use Rattle.std.proofs.Common.{◌+◌, ◌*◌, ◌-◌, ◌≤◌, arith, ap, ◌∙◌}
use Rattle.std.proofs.lemmas.List.{get_or_read}
use Rattle.algorithms.specs.Lists.{turned}
use Rattle.algorithms.proofs.PartsTwo.{merging_start, merging_more, merging_end}
use Rattle.split.proofs.Numbers.{fit_at, fit_turned}
use Rattle.dct2.proofs.steps.merge.Goals as goal

pub loop-i-init : goal.loop-i-init
loop-i-init g c =
    let O = g.T.Number.ops in
    let s = c.args.s.now in
    rw (
      get_or_read s 0 _ (omega (arith, c.requires)) c.index-s-0.is O.none,
      get_or_read s (2 * c.args.q) _ (omega (arith, c.requires)) c.index-s-q.is O.none,
      get_or_read s 1 _ (omega (arith, c.requires)) c.index-s-1.is O.none,
    ) (merging_start O c.args.q s c.args.x.now c.requires.0 c.requires.4)

pub minus-requires : goal.minus-requires
minus-requires g c =
    let O = g.T.Number.ops in
    let s = c.args.s.now in
    let closed = g.met.T.Number.closed in
    let i = c.loop-i.i in
    let below : i ≤ c.args.q - 1 = omega (arith, c.loop-i-test.true) in
    let some = c.loop-i.invariant.merged.some in (
      rw (get_or_read s (2 * c.args.q + i) _ (omega (arith, c.requires)) c.index-s-q-in-loop-i.is O.none) (fit_at closed s c.requires.2 _),
      rw (c.turned-sin_output.ensures, get_or_read s (4 * c.args.q - i) _ (omega (arith, c.requires)) c.index-s-q-in-loop-i-2.is O.none) (fit_turned closed _ _ (fit_at closed s c.requires.2 _)),
    )

pub loop-i-preserved : goal.loop-i-preserved
loop-i-preserved g c =
    let O = g.T.Number.ops in
    let s = c.args.s.now in
    let i = c.loop-i.i in
    let q = c.args.q in
    let some = c.loop-i.invariant.merged.some in
    let cosine = get_or_read s (2 * q + i) _ (omega (arith, c.requires, c.loop-i-test.true)) c.index-s-q-in-loop-i.is O.none in
    let sine = get_or_read s (4 * q - i) _ (omega (arith, c.requires, c.loop-i-test.true)) c.index-s-q-in-loop-i-2.is O.none in
    rw (
      get_or_read s (2 * i) _ (omega (arith, c.requires, c.loop-i-test.true)) c.index-s-i.is O.none,
      get_or_read s (2 * i + 1) _ (omega (arith, c.requires, c.loop-i-test.true)) c.index-s-i-in-loop-i.is O.none,
    )
    (merging_more O q c.loop-i.invariant c.loop-i-test.true (c.turned-sin_output.ensures ∙ ap (turned O (i + q + 1)) sine)
    (c.plus.ensures ∙ ap (λ v. O.add v c.turned-sin_output.result) cosine) (c.minus.ensures ∙ ap (λ v. O.sub v c.turned-sin_output.result) cosine))

pub returns : goal.returns
returns g c =
    let O = g.T.Number.ops in
    merging_end O c.args.q c.loop-i.invariant c.loop-i-test.false
    (c.negated.ensures ∙ ap O.neg (get_or_read c.args.s.now (3 * c.args.q) _ (omega (arith, c.requires)) c.index-s-q-2.is O.none))
