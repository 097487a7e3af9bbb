-- The code's orders and tests, and the definitions'.
use Rattle.std.specs.Prelude.{ℕ, ℤ, Option, Some, None}
use Rattle.std.specs.declared.cmp.Ordering.{Ordering}
use Rattle.std.specs.declared.cmp.Ordering.TheVariants.{Less, Equal, Greater}
use Rattle.value.specs.Answer.{pick}
use Rattle.value.specs.Value.{Value, family, is_unsigned, is_signed, integer}
use Rattle.value.specs.Value as Believed
use Rattle.comparing.specs.declared.family.Test as T

unfoldable pub order_of : Option Ordering → Believed.Order
order_of (Some Less) = Believed.less
order_of (Some Equal) = Believed.equal
order_of (Some Greater) = Believed.greater
order_of None = Believed.unordered

unfoldable pub test_of : T.Test → Believed.Test
test_of T.TheVariants.Eq = Believed.eq
test_of T.TheVariants.Ne = Believed.ne
test_of T.TheVariants.Lt = Believed.lt
test_of T.TheVariants.Le = Believed.le
test_of T.TheVariants.Gt = Believed.gt
test_of T.TheVariants.Ge = Believed.ge

-- the number of a value of the unsigned family, or of the signed
unfoldable pub as_unsigned : Value → Option ℕ
as_unsigned v = pick (is_unsigned (family v.kind)) (Some v.bits) None

unfoldable pub as_signed : Value → Option ℤ
as_signed v = pick (is_signed (family v.kind)) (Some (integer v)) None
