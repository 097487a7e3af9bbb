-- The code's comparisons, and the definitions'.
use Rattle.std.specs.Prelude.{Some, None}
use Rattle.std.specs.Prelude as Code
use Rattle.std.proofs.Math.Option.{Option, none, some}
use Rattle.value.specs.Value as Believed
use Rattle.value.specs.declared.IntCmp as I
use Rattle.value.specs.declared.FloatCmp as F

unfoldable pub int_cmp_of : I.IntCmp → Believed.IntCmp
int_cmp_of I.TheVariants.Eq = Believed.Eq
int_cmp_of I.TheVariants.Ne = Believed.Ne
int_cmp_of I.TheVariants.ULt = Believed.ULt
int_cmp_of I.TheVariants.ULe = Believed.ULe
int_cmp_of I.TheVariants.UGt = Believed.UGt
int_cmp_of I.TheVariants.UGe = Believed.UGe
int_cmp_of I.TheVariants.SLt = Believed.SLt
int_cmp_of I.TheVariants.SLe = Believed.SLe
int_cmp_of I.TheVariants.SGt = Believed.SGt
int_cmp_of I.TheVariants.SGe = Believed.SGe

unfoldable pub ir_int_cmp : Believed.IntCmp → I.IntCmp
ir_int_cmp Believed.Eq = I.TheVariants.Eq
ir_int_cmp Believed.Ne = I.TheVariants.Ne
ir_int_cmp Believed.ULt = I.TheVariants.ULt
ir_int_cmp Believed.ULe = I.TheVariants.ULe
ir_int_cmp Believed.UGt = I.TheVariants.UGt
ir_int_cmp Believed.UGe = I.TheVariants.UGe
ir_int_cmp Believed.SLt = I.TheVariants.SLt
ir_int_cmp Believed.SLe = I.TheVariants.SLe
ir_int_cmp Believed.SGt = I.TheVariants.SGt
ir_int_cmp Believed.SGe = I.TheVariants.SGe

unfoldable pub float_cmp_of : F.FloatCmp → Believed.FloatCmp
float_cmp_of F.TheVariants.Eq = Believed.FEq
float_cmp_of F.TheVariants.Ne = Believed.FNe
float_cmp_of F.TheVariants.Lt = Believed.FLt
float_cmp_of F.TheVariants.Le = Believed.FLe
float_cmp_of F.TheVariants.Gt = Believed.FGt
float_cmp_of F.TheVariants.Ge = Believed.FGe

unfoldable pub ir_float_cmp : Believed.FloatCmp → F.FloatCmp
ir_float_cmp Believed.FEq = F.TheVariants.Eq
ir_float_cmp Believed.FNe = F.TheVariants.Ne
ir_float_cmp Believed.FLt = F.TheVariants.Lt
ir_float_cmp Believed.FLe = F.TheVariants.Le
ir_float_cmp Believed.FGt = F.TheVariants.Gt
ir_float_cmp Believed.FGe = F.TheVariants.Ge

-- the comparison that a number names, or none
unfoldable pub int_comparison : Option Believed.IntCmp → Code.Option I.IntCmp
int_comparison none = None
int_comparison (some c) = Some (ir_int_cmp c)

unfoldable pub float_comparison : Option Believed.FloatCmp → Code.Option F.FloatCmp
float_comparison none = None
float_comparison (some c) = Some (ir_float_cmp c)
