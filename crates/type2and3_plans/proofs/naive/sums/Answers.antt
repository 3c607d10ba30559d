-- Each transform reads only the one table that it is lent.
use Rattle.algorithms.specs.Naive.{naive_dct2, naive_dst2, naive_dct3, naive_dst3}
use Rattle.type2and3_plans.proofs.naive.sums.Goals as goal

pub returns-in-Dct2 : goal.returns-in-Dct2
unfolding naive_dct2
returns-in-Dct2 g c = rw c.in-Dct2.is c.dct2.ensures

pub returns-in-Dst2 : goal.returns-in-Dst2
unfolding naive_dst2
returns-in-Dst2 g c = rw c.in-Dst2.is c.dst2.ensures

pub returns-in-Dct3 : goal.returns-in-Dct3
unfolding naive_dct3
returns-in-Dct3 g c = rw c.in-Dct3.is c.dct3.ensures

pub returns-in-Dst3 : goal.returns-in-Dst3
unfolding naive_dst3
returns-in-Dst3 g c = rw c.in-Dst3.is c.dst3.ensures
