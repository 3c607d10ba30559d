use Rattle.std.proofs.Common.{◌≡◌, sym, ◌∙◌, ap, ℕ, ◌+◌, ◌*◌, ◌-◌, ◌/◌, ◌%◌, ◌<◌, length, arith}
use Rattle.std.proofs.lemmas.List.{get_or_default, get_or_read}
use Prim.Native.Nat.{min}
use mathlib.Core.Bool.{cond}
use lib.Dec.{ltb}
use Rattle.algorithms.specs.Block.{naive_imdct_second}
use Rattle.algorithms.proofs.Lists.{cond_below}
use Rattle.naive_sums.specs.AngleSums.{angle_sum}
use Rattle.mdct_naive.proofs.Added.{added_numbers, added_more, added_all}
use Rattle.mdct_naive.proofs.add_second.Goals as goal

-- n is even, so the lesser of k and n - 1 - k is k in the first half alone
lesser_is : (n k m : ℕ) → n % 2 ≡ 0 → k < n → m ≡ min k (n - 1 - k) → m ≡ cond (ltb k (n / 2)) k (n - 1 - k)
lesser_is n k m even less is = sym (cond_below k (n / 2) k (n - 1 - k) m (λ l. omega arith) (λ h. omega arith))

pub added-requires : goal.added-requires
added-requires g c =
    let none = g.T.Number.ops.none in
    let k = c.loop-k.k in
    let m = c.args.n + k in
    let below : k < length c.loop-k.output = omega arith in
    let within : m < length c.args.window.now = omega arith in
    added_numbers c.requires c.loop-k.invariant g.met.T.Number.closed m _ _ (omega arith) c.zero.ensures c.angle_sum-sum.ensures
    (get_or_default _ k _ none below) within (get_or_read _ m _ within c.index-window-n.is none)

pub loop-k-preserved : goal.loop-k-preserved
loop-k-preserved g c =
    let O = g.T.Number.ops in
    let n = c.args.n in
    let k = c.loop-k.k in
    let circle = c.args.circle in
    let below : k < length c.loop-k.output = omega arith in
    let within : n + k < length c.args.window.now = omega arith in
    added_more c.requires c.loop-k.invariant (omega arith) c.zero.ensures
    (c.angle_sum-sum.ensures
    ∙ ap (λ (m : ℕ). angle_sum O (g.C.Circle.reads circle) (g.C.Circle.turn circle) c.args.input.now c.zero.result (2 * n + n / 2 - 1 - m) (n - 1 - 2 * m))
    (lesser_is n k c.min-mirrored.result c.requires.turned.even (omega arith) c.min-mirrored.ensures))
    (get_or_default _ k _ O.none below) (get_or_read _ (n + k) _ within c.index-window-n.is O.none) c.added.ensures

pub returns : goal.returns
unfolding naive_imdct_second
returns g c = added_all c.requires c.loop-k.invariant (omega arith)
