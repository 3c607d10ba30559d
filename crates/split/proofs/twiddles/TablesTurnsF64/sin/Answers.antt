use Rattle.split.proofs.Halves.{turned_sin_is}
use Rattle.split.proofs.twiddles.TablesTurnsF64.sin.Goals as goal

pub returns : goal.returns
returns c = turned_sin_is c.requires.0 c.args.i c.requires.1
