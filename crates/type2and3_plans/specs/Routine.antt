-- The routine of each transform, over any arithmetic. Assumes nothing.
use Rattle.std.specs.Prelude.{List, ℕ}
use Rattle.algorithms.specs.Ops.{Ops, Twiddles}
use Rattle.algorithms.specs.Naive.{naive_dct2, naive_dst2, naive_dct3, naive_dst3}
use Rattle.algorithms.specs.Fast.{dct2_fast, dst2_fast, dct3_fast, dst3_fast}
use Rattle.type2and3_plans.specs.declared.Transform.{Transform}
use Rattle.type2and3_plans.specs.declared.Transform.TheVariants.{Dct2, Dst2, Dct3, Dst3}

-- cosines and sines that are lent apart
abbrev pub twiddles_of : {A : Type 0} → (ℕ → ℕ → A) → (ℕ → ℕ → A) → Twiddles A
twiddles_of cosines sines = record { cos = cosines; sin = sines }

abbrev pub naive_by : Transform → {A : Type 0} → Ops A → Twiddles A → List A → List A
naive_by Dct2 = naive_dct2
naive_by Dst2 = naive_dst2
naive_by Dct3 = naive_dct3
naive_by Dst3 = naive_dst3

abbrev pub fast_by : Transform → {A : Type 0} → Ops A → Twiddles A → List A → List A
fast_by Dct2 = dct2_fast
fast_by Dst2 = dst2_fast
fast_by Dct3 = dct3_fast
fast_by Dst3 = dst3_fast
