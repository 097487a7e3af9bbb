-- What each instruction of the code makes of registers and tables, by the fields that it reads again at its place.
use Rattle.std.specs.Prelude.{ℕ, zero, suc, List, length, get_or, ltb, eqb, Result, Ok, Err}
use Rattle.value.specs.declared.refusal.Refusal.{Refusal}
use Rattle.value.specs.Refusal.{no_instruction, wrong_kinds}
use Rattle.value.specs.Answer.{pick}
use Rattle.value.specs.Value.{tag, u32}
use Rattle.memory.specs.Tables.{Both, both, registers}
use Rattle.memory.specs.declared.Registers.{Registers}
use Rattle.instruction.specs.Decode.{field, field_at, operand_at}
use Rattle.instruction.specs.Compute.{found_of, binary_of, unary_of}
use Rattle.instruction.specs.Variables.{set_variable, evaluated}
use Rattle.instruction.specs.declared.field.Field.{Field}
use Rattle.instruction.specs.declared.variables.Found.{Found}
use Rattle.instruction.specs.declared.step.Progress.{Progress}
use Rattle.instruction.specs.declared.step.Progress.TheVariants.{Next}

-- an answer, with all tables
pub record Stepped : Type 0 where
  pub answer : Result Progress Refusal
  pub store : List ℕ
  pub frames : List ℕ
  pub bounds : List ℕ
  pub pointers : List ℕ
  pub variables : List ℕ

abbrev pub stepped : Result Progress Refusal → (store frames bounds pointers variables : List ℕ) → Stepped
stepped a s f b p v = record { answer = a; store = s; frames = f; bounds = b; pointers = p; variables = v }

-- the refusal that was answered goes one way, and the result the other
abbrev pub either : {A B : Type 0} → Result A Refusal → (Refusal → B) → (A → B) → B
either (Err n) f g = f n
either (Ok a) f g = g a

-- a result goes to a variable, or is refused
unfoldable pub finished_of : Registers → (vars : List ℕ) → (to : ℕ) → Result Found Refusal → Both (Result Progress Refusal)
finished_of m vars to r = either r (λ n. both (Err n) vars) (λ v. both (Ok (Next m)) (set_variable vars to v))

unfoldable pub assigned_of : Registers → (image vars : List ℕ) → (at : ℕ) → Both (Result Progress Refusal)
assigned_of m s vars at =
    let to = field_at s at in
    finished_of m vars to.value (evaluated vars (operand_at s to.next))

abbrev pub with_next : Registers → ℕ → Registers
with_next m k = registers m.running k m.counter m.depth m.pointers

-- on to a label's place; an accepted instruction has no other labels
unfoldable pub went_of : Registers → (labels : List ℕ) → Field → Result Progress Refusal
went_of m labels l =
    pick (eqb l.next 0) (Err no_instruction)
    (pick (ltb l.value (length labels)) (Ok (Next (with_next m (get_or labels l.value 0)))) (Err no_instruction))

unfoldable pub jumped_of : Registers → (image labels : List ℕ) → (at : ℕ) → Result Progress Refusal
jumped_of m s labels at = went_of m labels (field_at s at)

-- the value that a Switch goes by, where its kind is one of those that a Switch takes, or the operand's refusal
unfoldable pub key_of : Result Found Refusal → Result Found Refusal
key_of (Ok v) = pick (ltb (tag u32) v.tag) (Err wrong_kinds) (Ok v)
key_of (Err n) = Err n

-- the label of the first of n branches with this number, or the default
unfoldable pub branch_of : (image : List ℕ) → (n bits at : ℕ) → Field
branch_of s zero bits at = field_at s at
branch_of s (suc n) bits at =
    let number = field_at s at in
    let label = field_at s number.next in
    pick (eqb number.value bits) label (branch_of s n bits label.next)

unfoldable pub switched_of : Registers → (image labels vars : List ℕ) → (at : ℕ) → Result Progress Refusal
switched_of m s labels vars at =
    let examinee = operand_at s at in
    let count = field_at s examinee.next in
    either (key_of (evaluated vars examinee)) (λ n. Err n) (λ v. went_of m labels (branch_of s count.value v.bits count.next))

-- "to, comparison .., two operands", "to, two operands", "to, signed flag, two operands"
unfoldable pub middle_of : (opcode : ℕ) → (image : List ℕ) → (at : ℕ) → Field
middle_of n s at = pick (ltb n 8) (field_at s at) (pick (eqb n 11) (field_at s at) (pick (eqb n 12) (field_at s at) (field 0 at)))

unfoldable pub combined_of : Registers → (opcode : ℕ) → (image vars : List ℕ) → (at : ℕ) → Both (Result Progress Refusal)
combined_of m n s vars at =
    let to = field_at s at in
    let how = middle_of n s to.next in
    let left = operand_at s how.next in
    let right = operand_at s left.next in
    finished_of m vars to.value (found_of (binary_of n how.value (evaluated vars left) (evaluated vars right)))

unfoldable pub changed_of : Registers → (opcode : ℕ) → (image vars : List ℕ) → (at : ℕ) → Both (Result Progress Refusal)
changed_of m n s vars at =
    let to = field_at s at in
    finished_of m vars to.value (found_of (unary_of n (evaluated vars (operand_at s to.next))))
