-- What the code reads again of a Call and of its callee. Place 0 is no field's, and stands for refused.
use Rattle.std.specs.Prelude.{ℕ, zero, suc, ◌+◌, List, length, get_or, ltb, leb, eqb, Option, Some, None, Result, Ok, Err}
use Rattle.value.specs.declared.refusal.Refusal.{Refusal}
use Rattle.value.specs.Refusal.{no_instruction}
use Rattle.value.specs.Answer.{pick}
use Rattle.instruction.specs.Decode.{field, field_at, operand_at}
use Rattle.instruction.specs.declared.field.Field.{Field}
use Rattle.calls.specs.declared.fields.Spot.{Spot}
use Rattle.calls.specs.declared.fields.Slot.{Slot}
use Rattle.calls.specs.declared.fields.CallFields.{CallFields}
use Rattle.calls.specs.declared.fields.Callee.{Callee}

-- a variable by its number + 1, or none by 0
abbrev pub variable_of : ℕ → Option ℕ
variable_of zero = None
variable_of (suc x) = Some x

module _ (image : List ℕ) where
  -- the place after n numbers
  unfoldable pub numbers_skipped : (n at : ℕ) → ℕ
  numbers_skipped zero at = at
  numbers_skipped (suc n) at = numbers_skipped n (field_at image at).next

  -- the place after n operands
  unfoldable pub operands_skipped : (n at : ℕ) → ℕ
  operands_skipped zero at = at
  operands_skipped (suc n) at = operands_skipped n (operand_at image at).next

  -- a variable's number + 1, as the return variable is kept; there are 256
  unfoldable pub one_more : Field → Field
  one_more x = pick (leb 256 x.value) (field 0 0) (field (x.value + 1) x.next)

  -- "An optional field is 0, or 1 and the field."
  unfoldable pub optional_variable : (at : ℕ) → Field
  optional_variable at =
      let mark = field_at image at in
      pick (eqb mark.value 0) mark (one_more (field_at image mark.next))

  -- "optional (to, type)"; the type is passed over
  unfoldable pub optional_to : (at : ℕ) → Field
  optional_to at =
      let to = optional_variable at in
      pick (eqb to.value 0) to (field to.value (field_at image to.next).next)

  -- "optional context operand": where it stands, if there is one
  unfoldable pub optional_operand : (at : ℕ) → Spot
  optional_operand at =
      let mark = field_at image at in
      pick (eqb mark.value 0)
      (record { start = None; next = mark.next })
      (record { start = Some mark.next; next = (operand_at image mark.next).next })

  -- "pairs of variable and size"
  unfoldable pub slot_at : (at : ℕ) → Slot
  slot_at at =
      let variable = field_at image at in
      let size = field_at image variable.next in
      record { variable = variable.value; size = size.value; next = size.next }

  -- "optional (to, type); optional context operand; function; count (0..16), operands; optional return-pointer variable"
  unfoldable pub call_at : (at : ℕ) → CallFields
  call_at at =
      let to = optional_to at in
      let context = optional_operand to.next in
      let callee = field_at image context.next in
      let given = field_at image callee.next in
      let pointer = optional_variable (operands_skipped given.value given.next) in
      record {
        to = to.value;
        context = context.start;
        callee = callee.value;
        given = given.value;
        arguments = given.next;
        pointer = variable_of pointer.value;
        next = pointer.next;
      }

  -- "Function: kind, entry label, return variable, context variable, return-pointer flag, parameter count and variables, slot count and pairs"
  unfoldable pub callee_at : (at : ℕ) → Callee
  callee_at at =
      let kind = field_at image at in
      let entry = field_at image kind.next in
      let result = field_at image entry.next in
      let context = field_at image result.next in
      let flag = field_at image context.next in
      let wanted = field_at image flag.next in
      let count = field_at image (numbers_skipped wanted.value wanted.next) in
      record {
        entry = entry.value;
        result = result.value;
        context = context.value;
        flag = flag.value;
        wanted = wanted.value;
        parameters = wanted.next;
        count = count.value;
        slots = count.next;
      }

-- where a function stands in the image, by the loader's table
unfoldable pub place_in : (functions : List ℕ) → (number : ℕ) → ℕ
place_in functions n = pick (ltb n (length functions)) (get_or functions n 0) 0

-- the place of the entry label; an accepted image has no other labels
unfoldable pub entry_of : (labels : List ℕ) → Callee → Result ℕ Refusal
entry_of labels f =
    pick (eqb f.slots 0) (Err no_instruction)
    (pick (ltb f.entry (length labels)) (Ok (get_or labels f.entry 0)) (Err no_instruction))
