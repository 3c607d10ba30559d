-- The defining sum of each transform of type 4. Assumes nothing.
use Rattle.std.specs.Prelude.{List, ℕ}
use Rattle.sums.specs.Transform.{dct4_sum, dst4_sum}
use Rattle.type4_plans.specs.declared.Transform.{Transform}
use Rattle.type4_plans.specs.declared.Transform.TheVariants.{Dct4, Dst4}

abbrev pub sum_by : Transform → List ℕ → List ℕ
sum_by Dct4 = dct4_sum
sum_by Dst4 = dst4_sum
