-- `div`: two integers of one kind by std's checked quotient at its width, and no other two.
use mathlib.Core.Path.{ap}
use borrow.Author.Rules.{rules}
use borrow.Enum.Refused.{opened}
use Rattle.value.specs.Ir.{value_of}
use Rattle.value.specs.Value.{tag, u8, u16, u32, u64, i8, i16, i32, i64}
use Rattle.value.specs.Value as Believed
use Rattle.operations.proofs.Arithmetic.{unlike, not-integral, signs, counts, signed-divides, divides, quotient-is}
use Rattle.operations.proofs.Widths.{u8_is, u16-is, u32-is, u64-is, i8-is, i16-is, i32-is, i64-is}
use Rattle.operations.proofs.integer.div.Goals as goal
use Rattle.operations.proofs.integer.div.Goals.{in-U8-U8, in-U16-U16, in-U32-U32, in-U64-U64, in-I8-I8, in-I16-I16, in-I32-I32, in-I64-I64}

pub returns-in_default : goal.returns-in_default
unfolding value_of tag
returns-in_default c = unlike Believed.div c.args.x c.args.y u8 1 (ap (λ v. (value_of v).kind) c.in_default.is-0) tt (opened c.in_default.in_default-own.keys2)

pub returns-in_default-2 : goal.returns-in_default-2
unfolding value_of tag
returns-in_default-2 c = unlike Believed.div c.args.x c.args.y u16 2 (ap (λ v. (value_of v).kind) c.in_default.is-0) tt (opened c.in_default.in_default-own.keys2)

pub returns-in_default-3 : goal.returns-in_default-3
unfolding value_of tag
returns-in_default-3 c = unlike Believed.div c.args.x c.args.y u32 3 (ap (λ v. (value_of v).kind) c.in_default.is-0) tt (opened c.in_default.in_default-own.keys2)

pub returns-in_default-4 : goal.returns-in_default-4
unfolding value_of tag
returns-in_default-4 c = unlike Believed.div c.args.x c.args.y u64 4 (ap (λ v. (value_of v).kind) c.in_default.is-0) tt (opened c.in_default.in_default-own.keys2)

pub returns-in_default-5 : goal.returns-in_default-5
unfolding value_of tag
returns-in_default-5 c = unlike Believed.div c.args.x c.args.y i8 5 (ap (λ v. (value_of v).kind) c.in_default.is-0) tt (opened c.in_default.in_default-own.keys2)

pub returns-in_default-6 : goal.returns-in_default-6
unfolding value_of tag
returns-in_default-6 c = unlike Believed.div c.args.x c.args.y i16 6 (ap (λ v. (value_of v).kind) c.in_default.is-0) tt (opened c.in_default.in_default-own.keys2)

pub returns-in_default-7 : goal.returns-in_default-7
unfolding value_of tag
returns-in_default-7 c = unlike Believed.div c.args.x c.args.y i32 7 (ap (λ v. (value_of v).kind) c.in_default.is-0) tt (opened c.in_default.in_default-own.keys2)

pub returns-in_default-8 : goal.returns-in_default-8
unfolding value_of tag
returns-in_default-8 c = unlike Believed.div c.args.x c.args.y i64 8 (ap (λ v. (value_of v).kind) c.in_default.is-0) tt (opened c.in_default.in_default-own.keys2)

pub returns-in_default-9 : goal.returns-in_default-9
returns-in_default-9 c = not-integral Believed.div c.args.x c.args.y c.in_default.in_default-own.keys9

pub returns : goal.returns
returns c =
    elim c.match-x.branch [
      | in-U8-U8 w ↦ quotient-is (counts u8_is) {a = w.in-U8-U8.a} {b = w.in-U8-U8.b} w.in-U8-U8.is-0 w.in-U8-U8.is-1 (search rules) (search rules) w.checked_div.result c.ok_or_else.result w.map-quotient.ensures.cases w.quotient-is (λ n k. search rules) c.ok_or_else.ensures.cases (divides u8_is _ _ (search rules) _ w.checked_div.ensures)
      | in-U16-U16 w ↦ quotient-is (counts u16-is) {a = w.in-U16-U16.a} {b = w.in-U16-U16.b} w.in-U16-U16.is-0 w.in-U16-U16.is-1 (search rules) (search rules) w.checked_div-in-U16-U16.result c.ok_or_else.result w.map-quotient-in-U16-U16.ensures.cases w.quotient-is (λ n k. search rules) c.ok_or_else.ensures.cases (divides u16-is _ _ (search rules) _ w.checked_div-in-U16-U16.ensures)
      | in-U32-U32 w ↦ quotient-is (counts u32-is) {a = w.in-U32-U32.a} {b = w.in-U32-U32.b} w.in-U32-U32.is-0 w.in-U32-U32.is-1 (search rules) (search rules) w.checked_div-in-U32-U32.result c.ok_or_else.result w.map-quotient-in-U32-U32.ensures.cases w.quotient-is (λ n k. search rules) c.ok_or_else.ensures.cases (divides u32-is _ _ (search rules) _ w.checked_div-in-U32-U32.ensures)
      | in-U64-U64 w ↦ quotient-is (counts u64-is) {a = w.in-U64-U64.a} {b = w.in-U64-U64.b} w.in-U64-U64.is-0 w.in-U64-U64.is-1 (search rules) (search rules) w.checked_div-in-U64-U64.result c.ok_or_else.result w.map-quotient-in-U64-U64.ensures.cases w.quotient-is (λ n k. search rules) c.ok_or_else.ensures.cases (divides u64-is _ _ (search rules) _ w.checked_div-in-U64-U64.ensures)
      | in-I8-I8 w ↦ quotient-is (signs i8-is) {a = w.in-I8-I8.a} {b = w.in-I8-I8.b} w.in-I8-I8.is-0 w.in-I8-I8.is-1 (search rules) (search rules) w.checked_div-in-I8-I8.result c.ok_or_else.result w.map-quotient-in-I8-I8.ensures.cases w.quotient-is (λ n k. search rules) c.ok_or_else.ensures.cases (signed-divides i8-is w.in-I8-I8.a w.in-I8-I8.b (search rules) (search rules) _ w.checked_div-in-I8-I8.ensures)
      | in-I16-I16 w ↦ quotient-is (signs i16-is) {a = w.in-I16-I16.a} {b = w.in-I16-I16.b} w.in-I16-I16.is-0 w.in-I16-I16.is-1 (search rules) (search rules) w.checked_div-in-I16-I16.result c.ok_or_else.result w.map-quotient-in-I16-I16.ensures.cases w.quotient-is (λ n k. search rules) c.ok_or_else.ensures.cases (signed-divides i16-is w.in-I16-I16.a w.in-I16-I16.b (search rules) (search rules) _ w.checked_div-in-I16-I16.ensures)
      | in-I32-I32 w ↦ quotient-is (signs i32-is) {a = w.in-I32-I32.a} {b = w.in-I32-I32.b} w.in-I32-I32.is-0 w.in-I32-I32.is-1 (search rules) (search rules) w.checked_div-in-I32-I32.result c.ok_or_else.result w.map-quotient-in-I32-I32.ensures.cases w.quotient-is (λ n k. search rules) c.ok_or_else.ensures.cases (signed-divides i32-is w.in-I32-I32.a w.in-I32-I32.b (search rules) (search rules) _ w.checked_div-in-I32-I32.ensures)
      | in-I64-I64 w ↦ quotient-is (signs i64-is) {a = w.in-I64-I64.a} {b = w.in-I64-I64.b} w.in-I64-I64.is-0 w.in-I64-I64.is-1 (search rules) (search rules) w.checked_div-in-I64-I64.result c.ok_or_else.result w.map-quotient-in-I64-I64.ensures.cases w.quotient-is (λ n k. search rules) c.ok_or_else.ensures.cases (signed-divides i64-is w.in-I64-I64.a w.in-I64-I64.b (search rules) (search rules) _ w.checked_div-in-I64-I64.ensures)
    ]
