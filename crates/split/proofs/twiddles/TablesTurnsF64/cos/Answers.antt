use Rattle.split.proofs.Halves.{turned_cos_is}
use Rattle.split.proofs.twiddles.TablesTurnsF64.cos.Goals as goal

pub returns : goal.returns
returns c = turned_cos_is c.requires.0 c.args.i c.requires.1
