-- `stored`: the conversion into the width of x's kind, by the law over the width, and no number in another kind.
use borrow.Author.Rules.{rules}
use mir.Syntax.{w128}
use mir.ValLaws.{to_z-of_z}
use Rattle.operations.proofs.Arithmetic.{no_integer}
use Rattle.operations.proofs.Widths.{count_stored, sign-stored, u8_is, u16-is, u32-is, u64-is, i8-is, i16-is, i32-is, i64-is}
use Rattle.operations.proofs.integer.stored.Goals as goal
use Rattle.operations.proofs.integer.stored.Goals.{in-U8, in-U16, in-U32, in-U64, in-I8, in-I16, in-I32, in-I64}

pub returns-in_default : goal.returns-in_default
returns-in_default c = no_integer c.args.x c.args.z c.in_default.in_default-own.keys9

pub returns : goal.returns
returns c =
    let Z = to_z-of_z w128 c.args.z c.ranges.z in
    elim c.match-x.branch [
      | in-U8 w ↦ count_stored Z w.try_from.result w.map-value.result w.value-is c.map_err.result (λ e n k. search rules) u8_is w.in-U8.is w.try_from.ensures w.map-value.ensures.cases c.map_err.ensures.cases
      | in-U16 w ↦ count_stored Z w.try_from-in-U16.result w.map-value-in-U16.result w.value-is c.map_err.result (λ e n k. search rules) u16-is w.in-U16.is w.try_from-in-U16.ensures w.map-value-in-U16.ensures.cases c.map_err.ensures.cases
      | in-U32 w ↦ count_stored Z w.try_from-in-U32.result w.map-value-in-U32.result w.value-is c.map_err.result (λ e n k. search rules) u32-is w.in-U32.is w.try_from-in-U32.ensures w.map-value-in-U32.ensures.cases c.map_err.ensures.cases
      | in-U64 w ↦ count_stored Z w.try_from-in-U64.result w.map-value-in-U64.result w.value-is c.map_err.result (λ e n k. search rules) u64-is w.in-U64.is w.try_from-in-U64.ensures w.map-value-in-U64.ensures.cases c.map_err.ensures.cases
      | in-I8 w ↦ sign-stored Z w.try_from-in-I8.result w.map-value-in-I8.result w.value-is c.map_err.result (λ e n k. search rules) i8-is w.in-I8.is w.try_from-in-I8.ensures w.map-value-in-I8.ensures.cases c.map_err.ensures.cases
      | in-I16 w ↦ sign-stored Z w.try_from-in-I16.result w.map-value-in-I16.result w.value-is c.map_err.result (λ e n k. search rules) i16-is w.in-I16.is w.try_from-in-I16.ensures w.map-value-in-I16.ensures.cases c.map_err.ensures.cases
      | in-I32 w ↦ sign-stored Z w.try_from-in-I32.result w.map-value-in-I32.result w.value-is c.map_err.result (λ e n k. search rules) i32-is w.in-I32.is w.try_from-in-I32.ensures w.map-value-in-I32.ensures.cases c.map_err.ensures.cases
      | in-I64 w ↦ sign-stored Z w.try_from-in-I64.result w.map-value-in-I64.result w.value-is c.map_err.result (λ e n k. search rules) i64-is w.in-I64.is w.try_from-in-I64.ensures w.map-value-in-I64.ensures.cases c.map_err.ensures.cases
    ]
