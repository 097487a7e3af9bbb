-- `bits`: of a signed kind, the machine's two's complement is the definition's.
use mathlib.Core.Path.{refl, ◌∙◌}
use borrow.Author.Rules.{rules}
use mir.Syntax.{w8, w16, w32, w64}
use Rattle.value.specs.Value.{size, i8, i16, i32, i64}
use Rattle.value.specs.Ir.{value_of}
use Rattle.value.proofs.Complement.{unsigned_is}
use Rattle.value.proofs.Roundtrip.{told}
use Rattle.value.proofs.IrValue.bits.Goals as goal

pub returns-in-I8 : goal.returns-in-I8
unfolding value_of size
returns-in-I8 c = told c.in-I8.is (c.cast_unsigned.ensures ∙ unsigned_is w8 i8 refl c.in-I8.z (search rules))

pub returns-in-I16 : goal.returns-in-I16
unfolding value_of size
returns-in-I16 c = told c.in-I16.is (c.cast_unsigned-in-I16.ensures ∙ unsigned_is w16 i16 refl c.in-I16.z (search rules))

pub returns-in-I32 : goal.returns-in-I32
unfolding value_of size
returns-in-I32 c = told c.in-I32.is (c.cast_unsigned-in-I32.ensures ∙ unsigned_is w32 i32 refl c.in-I32.z (search rules))

pub returns-in-I64 : goal.returns-in-I64
unfolding value_of size
returns-in-I64 c = told c.in-I64.is (c.cast_unsigned-in-I64.ensures ∙ unsigned_is w64 i64 refl c.in-I64.z (search rules))
