-- What the step reads again of an instruction: its numbers and operands. Place 0 is no field's, and stands for refused.
use Rattle.std.specs.Prelude.{ℕ, List, eqb}
use Rattle.value.specs.Answer.{pick}
use Rattle.image.specs.Parse.{Got, took, refused}
use Rattle.image.specs.Number.{number}
use Rattle.instruction.specs.declared.field.Field.{Field}
use Rattle.instruction.specs.declared.field.Operand.{Operand}

abbrev pub field : (value next : ℕ) → Field
field v n = record { value = v; next = n }

-- the number that was read, or none
abbrev pub field_of : Got ℕ → Field
field_of (took v next) = field v next
field_of (refused n place) = field 0 0

unfoldable pub field_at : List ℕ → (at : ℕ) → Field
field_at s at = pick (eqb at 0) (field 0 0) (field_of (number s at))

unfoldable pub operand_at : List ℕ → (at : ℕ) → Operand
operand_at s at =
    let tag = field_at s at in
    let bits = field_at s tag.next in
    record { tag = tag.value; bits = bits.value; next = bits.next }
