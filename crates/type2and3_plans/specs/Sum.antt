-- The defining sum of each transform of types 2 and 3. Assumes nothing.
use Rattle.std.specs.Prelude.{List, ℕ}
use Rattle.sums.specs.Transform.{dct2_sum, dst2_sum, dct3_sum, dst3_sum}
use Rattle.type2and3_plans.specs.declared.Transform.{Transform}
use Rattle.type2and3_plans.specs.declared.Transform.TheVariants.{Dct2, Dst2, Dct3, Dst3}

abbrev pub sum_by : Transform → List ℕ → List ℕ
sum_by Dct2 = dct2_sum
sum_by Dst2 = dst2_sum
sum_by Dct3 = dct3_sum
sum_by Dst3 = dst3_sum
