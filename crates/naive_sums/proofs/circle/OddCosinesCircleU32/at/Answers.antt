use Rattle.std.proofs.Common.{◌∙◌}
use Rattle.naive_sums.specs.Circles.{odd_place, odd_cosine}
use Rattle.naive_sums.proofs.circle.OddCosinesCircleU32.at.Goals as goal

pub cosine-requires : goal.cosine-requires
cosine-requires c = let by = c.args.self in let r = c.requires in (r.0.0, odd_place by.powers.now by.unit by.turn r.0.0 r.0.1 c.args.place r.1)

pub returns : goal.returns
returns c = let by = c.args.self in let r = c.requires in c.cosine.ensures ∙ odd_cosine by.powers.now by.unit by.turn r.0.0 r.0.1 c.args.place
