-- The numbers of comparisons: each names its own.
use mathlib.Core.Path.{◌≡◌, refl}
use mathlib.Core.Option.{some}
use Rattle.value.specs.Value.{IntCmp, FloatCmp}
use Rattle.value.specs.Tags.{int_cmp_at, float_cmp_at, int_cmp_number, float_cmp_number}

pub int_of_number : (c : IntCmp) → int_cmp_at (int_cmp_number c) ≡ some c
unfolding int_cmp_at
int_of_number IntCmp.Eq = refl
int_of_number IntCmp.Ne = refl
int_of_number IntCmp.ULt = refl
int_of_number IntCmp.ULe = refl
int_of_number IntCmp.UGt = refl
int_of_number IntCmp.UGe = refl
int_of_number IntCmp.SLt = refl
int_of_number IntCmp.SLe = refl
int_of_number IntCmp.SGt = refl
int_of_number IntCmp.SGe = refl

pub float_of_number : (c : FloatCmp) → float_cmp_at (float_cmp_number c) ≡ some c
unfolding float_cmp_at
float_of_number FloatCmp.FEq = refl
float_of_number FloatCmp.FNe = refl
float_of_number FloatCmp.FLt = refl
float_of_number FloatCmp.FLe = refl
float_of_number FloatCmp.FGt = refl
float_of_number FloatCmp.FGe = refl
