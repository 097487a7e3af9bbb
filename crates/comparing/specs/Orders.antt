-- The order of two floats, as the code has it.
use Rattle.std.specs.Prelude.{Option, Some, None, from_bits}
use Rattle.std.specs.declared.cmp.Ordering.{Ordering}
use Rattle.std.specs.declared.cmp.Ordering.TheVariants.{Less, Equal, Greater}
use Rattle.std.specs.Float.Ieee as I
use Rattle.value.specs.Answer.{pick}
use Rattle.value.specs.Value.{Value, Real, real, family, is_float, format_of}
use Rattle.value.specs.Value as Believed

-- what one number is to another, as `partial_cmp` has it
unfoldable pub ordered : Believed.Order → Option Ordering
ordered Believed.less = Some Less
ordered Believed.equal = Some Equal
ordered Believed.greater = Some Greater
ordered Believed.unordered = None

-- what a float's bits stand for; a value that is no float stands for none
unfoldable pub floating : Value → Real
floating v = pick (is_float (family v.kind)) (real v) Believed.nan

-- the same as one of the machine's floats; only a private function speaks of this
unfoldable pub wide_of : Value → I.Float
wide_of v = pick (is_float (family v.kind)) (from_bits (format_of v.kind) v.bits) I.nan
