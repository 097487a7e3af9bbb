-- `Double::to_bits`: a machine's float that is a NaN is the one NaN, and its pattern the canonical one.
use mathlib.Core.Path.{sym, ap, ◌∙◌}
use lib.Ieee.{binary64, to_bits}
use Rattle.value.specs.Floats.{bits64}
use Rattle.value.proofs.Patterns.{is_the_nan}
use Rattle.value.proofs.Double.to_bits.Goals as goal

pub returns-in-Number : goal.returns-in-Number
unfolding to_bits
returns-in-Number c = sym (ap bits64 c.in-Number.is ∙ ap (to_bits binary64) (is_the_nan _ (sym c.is_nan.ensures.value ∙ c.if-is_nan.true)))
