-- `number`: a signed integer by its width, any other value by its bits.
use borrow.Author.Rules.{rules}
use borrow.Enum.Refused.{opened}
use native.Mathlib.Omega.{arith}
use Rattle.operations.proofs.Arithmetic.{widened, by_bits}
use Rattle.operations.proofs.Widths.{i8-is, i16-is, i32-is, i64-is}
use Rattle.operations.proofs.integer.number.Goals as goal

pub returns-in-I8-clause-is : goal.returns-in-I8-clause-is
returns-in-I8-clause-is c = widened i8-is {a = c.in-I8.a} (search rules) (omega arith) c.in-I8.is

pub returns-in-I16-clause-is : goal.returns-in-I16-clause-is
returns-in-I16-clause-is c = widened i16-is {a = c.in-I16.a} (search rules) (omega arith) c.in-I16.is

pub returns-in-I32-clause-is : goal.returns-in-I32-clause-is
returns-in-I32-clause-is c = widened i32-is {a = c.in-I32.a} (search rules) (omega arith) c.in-I32.is

pub returns-in-I64-clause-is : goal.returns-in-I64-clause-is
returns-in-I64-clause-is c = widened i64-is {a = c.in-I64.a} (search rules) (omega arith) c.in-I64.is

pub returns-in_default : goal.returns-in_default
returns-in_default c = record { is = by_bits c.args.x (opened c.in_default.in_default-own.keys5) c.bits.ensures c.bits.type_inv; small = search rules }
