-- Laws of the tests that a call makes before it stores anything. A test that was passed holds (passed), and of four in a row each does
-- (all_four). Assumes nothing.
use mathlib.Core.Bool.{Bool, true, ◌&&◌}
use mathlib.Core.Path.{◌≡◌, subst, subst⁻¹}
use lib.Dec.{T}
use Rattle.ring.proofs.Below.{both_left, both_right}

-- a call answered r, which by its contract is the test's value, and the caller went on past its `if !r`
pub passed : {r test : Bool} → r ≡ test → r ≡ true → T test
passed is held = subst T is (subst⁻¹ T held tt)

pub all_four : (w x y z : Bool) → T (w && (x && (y && z))) → T w × T x × T y × T z
all_four w x y z t =
    let rest = both_right w (x && (y && z)) t in
    let last = both_right x (y && z) rest in
    (both_left w (x && (y && z)) t, both_left x (y && z) rest, both_left y z last, both_right y z last)
