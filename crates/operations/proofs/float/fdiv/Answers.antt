-- `fdiv`: two floats of one width by the quotient of their patterns, any other two refused.
use mathlib.Core.Path.{ap}
use borrow.Enum.Refused.{opened}
use Rattle.value.specs.Ir.{value_of}
use Rattle.value.specs.Value.{f32, f64, tag}
use Rattle.operations.proofs.Divided.{unlike, no_floats, quotient32, quotient64}
use Rattle.operations.proofs.float.fdiv.Goals as goal

pub returns-in_default : goal.returns-in_default
unfolding value_of tag
returns-in_default c = unlike c.args.x c.args.y f32 9 (ap (λ v. (value_of v).kind) c.in_default.is-0) tt (opened c.in_default.in_default-own.keys2)

pub returns-in_default-2 : goal.returns-in_default-2
unfolding value_of tag
returns-in_default-2 c = unlike c.args.x c.args.y f64 10 (ap (λ v. (value_of v).kind) c.in_default.is-0) tt (opened c.in_default.in_default-own.keys2)

pub returns-in_default-3 : goal.returns-in_default-3
returns-in_default-3 c = no_floats c.args.x c.args.y (opened c.in_default.in_default-own.keys3)

pub returns-in-F32-F32 : goal.returns-in-F32-F32
returns-in-F32-F32 c = quotient32 c.in-F32-F32.is-0 c.in-F32-F32.is-1 c.divide32.ensures

pub returns-in-F64-F64 : goal.returns-in-F64-F64
returns-in-F64-F64 c = quotient64 c.in-F64-F64.is-0 c.in-F64-F64.is-1 c.divide64.ensures
