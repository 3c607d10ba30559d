-- The routine of each transform of type 4, over any arithmetic. Assumes nothing.
use Rattle.std.specs.Prelude.{List}
use Rattle.algorithms.specs.Ops.{Ops, Twiddles}
use Rattle.algorithms.specs.Fast.{dct4_fast, dst4_fast}
use Rattle.type4_plans.specs.declared.Transform.{Transform}
use Rattle.type4_plans.specs.declared.Transform.TheVariants.{Dct4, Dst4}

abbrev pub fast_by : Transform → {A : Type 0} → Ops A → Twiddles A → List A → List A
fast_by Dct4 = dct4_fast
fast_by Dst4 = dst4_fast
