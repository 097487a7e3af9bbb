-- `as_i64`: the four signed kinds, widened, and no other.
use Rattle.std.proofs.Common.{refl, ap, arith, w8, w16, w32, w64, rules}
use Rattle.std.specs.Prelude.{Some}
use Rattle.value.specs.Value.{family, integer, size, i8, i16, i32, i64}
use Rattle.value.specs.Ir.{value_of}
use Rattle.comparing.specs.Compare.{as_signed}
use Rattle.comparing.proofs.Comparing.{told-signed, widened, same_width}
use Rattle.comparing.proofs.family.as_i64.Goals as goal

pub returns-in-I8 : goal.returns-in-I8
unfolding as_signed value_of family integer size
returns-in-I8 c = told-signed c.in-I8.is (ap Some (widened w8 i8 c.in-I8.z (search rules) (omega arith) refl refl))

pub returns-in-I16 : goal.returns-in-I16
unfolding as_signed value_of family integer size
returns-in-I16 c = told-signed c.in-I16.is (ap Some (widened w16 i16 c.in-I16.z (search rules) (omega arith) refl refl))

pub returns-in-I32 : goal.returns-in-I32
unfolding as_signed value_of family integer size
returns-in-I32 c = told-signed c.in-I32.is (ap Some (widened w32 i32 c.in-I32.z (search rules) (omega arith) refl refl))

pub returns-in-I64 : goal.returns-in-I64
unfolding as_signed value_of family integer size
returns-in-I64 c = told-signed c.in-I64.is (ap Some (same_width w64 i64 c.in-I64.z (search rules) refl refl))
