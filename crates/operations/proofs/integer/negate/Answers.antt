-- `negate`: a signed integer by std's checked negation at its width, a float by its sign bit, and nothing else.
use Rattle.std.specs.Option.{ok_or}
use mathlib.Core.Path.{ap, ◌∙◌}
use borrow.Author.Rules.{rules}
use borrow.Enum.Refused.{opened}
use Rattle.value.specs.Refusal.{outside_width}
use Rattle.operations.proofs.Arithmetic.{no_negation, opposite-is, minus32, minus64}
use Rattle.operations.proofs.Widths.{i8-is, i16-is, i32-is, i64-is}
use Rattle.operations.proofs.integer.negate.Goals as goal
use Rattle.operations.proofs.integer.negate.Goals.{in-I8, in-I16, in-I32, in-I64, in-F32, in-F64}

pub returns-in_default : goal.returns-in_default
returns-in_default c = no_negation c.args.x (opened c.in_default.in_default-own.keys7)

pub returns : goal.returns
returns c =
    elim c.match-x.branch [
      | in-I8 w ↦ opposite-is i8-is {a = w.in-I8.a} w.in-I8.is (search rules) w.checked_neg.result w.checked_neg.ensures w.map-opposite.ensures.cases w.opposite-is c.ok_or.ensures.value
      | in-I16 w ↦ opposite-is i16-is {a = w.in-I16.a} w.in-I16.is (search rules) w.checked_neg-in-I16.result w.checked_neg-in-I16.ensures w.map-opposite-in-I16.ensures.cases w.opposite-is c.ok_or.ensures.value
      | in-I32 w ↦ opposite-is i32-is {a = w.in-I32.a} w.in-I32.is (search rules) w.checked_neg-in-I32.result w.checked_neg-in-I32.ensures w.map-opposite-in-I32.ensures.cases w.opposite-is c.ok_or.ensures.value
      | in-I64 w ↦ opposite-is i64-is {a = w.in-I64.a} w.in-I64.is (search rules) w.checked_neg-in-I64.result w.checked_neg-in-I64.ensures w.map-opposite-in-I64.ensures.cases w.opposite-is c.ok_or.ensures.value
      | in-F32 w ↦ c.ok_or.ensures.value ∙ ap (λ o. ok_or o outside_width) w.opposite-is ∙ minus32 w.in-F32.is w.to_bits.ensures w.flip32.ensures w.from_bits.ensures
      | in-F64 w ↦ c.ok_or.ensures.value ∙ ap (λ o. ok_or o outside_width) w.opposite-is ∙ minus64 w.in-F64.is w.to_bits-in-F64.ensures w.flip64.ensures w.from_bits-in-F64.ensures
    ]
