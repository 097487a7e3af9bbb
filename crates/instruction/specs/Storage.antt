-- What the instructions that hand out pointers, reach through them, or leave a frame make of registers and tables.
use Rattle.std.specs.Prelude.{ℕ, ◌-◌, List, length, take, drop, replicate, ltb, eqb, Result, Ok, Err, ⊤, Some, None}
use Rattle.std.specs.Prelude as Code
use Rattle.std.proofs.Math.Option.{Option, none, some}
use Rattle.value.specs.declared.refusal.Refusal.{Refusal}
use Rattle.value.specs.Refusal.{no_instruction, wrong_kinds, no_return_place, bytes_exceed_size, beyond_length}
use Rattle.value.specs.Answer.{Answer, ok, refused, need, pick, ◌>>=◌}
use Rattle.value.specs.Value.{Value, IrType, kind_of, tag, size, same, pointer, bytes_of, from_bytes}
use Rattle.value.specs.Tags.{type_at}
use Rattle.value.specs.declared.IrValue.{IrValue}
use Rattle.memory.specs.Tables.{Tables, Both, both, Out, out, registers, popped_of, allocated_of, written_of, read_of, copied_of, offset_of, address_of}
use Rattle.memory.specs.declared.Registers.{Registers}
use Rattle.memory.specs.declared.Popped.{Popped}
use Rattle.instruction.specs.Decode.{field_at, operand_at}
use Rattle.instruction.specs.Compute.{answer_of, found_of, found_as}
use Rattle.instruction.specs.Variables.{found, set_variable, evaluated}
use Rattle.instruction.specs.Code.{Stepped, stepped, either, with_next, finished_of}
use Rattle.instruction.specs.declared.field.Operand.{Operand}
use Rattle.instruction.specs.declared.variables.Found.{Found}
use Rattle.instruction.specs.declared.step.Progress.{Progress}
use Rattle.instruction.specs.declared.step.Progress.TheVariants.{Next, Ended}

-- "22 wrong kinds for the instruction": a value where a pointer is asked for
unfoldable pub as_pointer_of : Result Found Refusal → Answer Value
as_pointer_of v = answer_of v >>= λ w. need (same w.kind pointer) wrong_kinds (ok w)

-- its number, or the refusal
abbrev pub number_in : Answer Value → Result ℕ Refusal
number_in (ok v) = Ok v.bits
number_in (refused n) = Err n

-- the pointer that an operand's value is, or the refusal
abbrev pub pointer_in : (vars : List ℕ) → Operand → Result ℕ Refusal
pointer_in vars o = number_in (as_pointer_of (evaluated vars o))

-- ---- pointers handed out

-- an answer, with the pointers and the variables
pub record Pointed : Type 0 where
  pub answer : Result Progress Refusal
  pub pointers : List ℕ
  pub variables : List ℕ

abbrev pub pointed : Result Progress Refusal → (pointers variables : List ℕ) → Pointed
pointed a p v = record { answer = a; pointers = p; variables = v }

-- the pointer that was given out goes to a variable
abbrev pub pointed_of : Result (ℕ × Registers) Refusal → (vars : List ℕ) → (to : ℕ) → Both (Result Progress Refusal)
pointed_of (Ok (p, m)) vars to = both (Ok (Next m)) (set_variable vars to (found (tag pointer) p))
pointed_of (Err n) vars to = both (Err n) vars

-- the same, with the pointers as they were left
abbrev pub handed_of : Both (Result (ℕ × Registers) Refusal) → (vars : List ℕ) → (to : ℕ) → Pointed
handed_of g vars to =
    let r = pointed_of g.answer vars to in
    pointed r.answer g.table r.table

-- ConstantAddress: "to, constant"
unfoldable pub addressed_of : Registers → (image pointers vars : List ℕ) → (at : ℕ) → Pointed
addressed_of m s ps vars at =
    let to = field_at s at in
    handed_of (address_of m (field_at s to.next).value ps) vars to.value

-- Offset: "to, operand, u32"
unfoldable pub offsetted_of : Registers → (image pointers vars : List ℕ) → (at : ℕ) → Pointed
offsetted_of m s ps vars at =
    let to = field_at s at in
    let from = operand_at s to.next in
    either (pointer_in vars from) (λ n. pointed (Err n) ps vars) (λ p.
    handed_of (offset_of m p (field_at s from.next).value ps) vars to.value)

-- ---- Return

-- the frame's own place and variable take over. "32 value returned where the call had no place"; with none its variable keeps its value
unfoldable pub back_of : Registers → (place variable : ℕ) → (vars : List ℕ) → Code.Option Found → Both (Result Progress Refusal)
back_of m place variable vars None = both (Ok (Next (with_next m place))) vars
back_of m place variable vars (Some v) =
    pick (eqb variable 0) (both (Err no_return_place) vars)
    (both (Ok (Next (with_next m place))) (set_variable vars (variable - 1) v))

-- "at root it ends the run": idle, and all else stays
abbrev pub idled : Registers → Registers
idled m = registers 0 m.next m.counter m.depth m.pointers

-- out of the top frame, by what the pop answers
abbrev pub left_by : Result (Code.Option Popped) Refusal → Registers → (vars : List ℕ) → Code.Option Found → Both (Result Progress Refusal)
left_by (Ok (Some f)) m vars v = back_of f.registers f.place f.variable vars v
left_by (Ok None) m vars v = both (Ok (Ended (idled m) v)) vars
left_by (Err n) m vars v = both (Err n) vars

-- with a value, or none
unfoldable pub left_of : Registers → (frames vars : List ℕ) → Code.Option Found → Both (Result Progress Refusal)
left_of m frames vars v = left_by (popped_of m frames) m vars v

-- Return: "optional operand". "operand; at root it ends the run; else 32, then pop."
unfoldable pub returned_of : Registers → (image frames vars : List ℕ) → (at : ℕ) → Both (Result Progress Refusal)
returned_of m s frames vars at =
    let mark = field_at s at in
    pick (eqb mark.value 0) (left_of m frames vars None)
    (either (evaluated vars (operand_at s mark.next)) (λ n. both (Err n) vars) (λ v. left_of m frames vars (Some v)))

-- ---- Write

-- what the memory answers, as a step
abbrev pub progress_of : Registers → Result ⊤ Refusal → Result Progress Refusal
progress_of m (Ok u) = Ok (Next m)
progress_of m (Err n) = Err n

-- on to the next place, where the memory did what was asked
abbrev pub went_on : Registers → Both (Result ⊤ Refusal) → Both (Result Progress Refusal)
went_on m r = both (progress_of m r.answer) r.table

-- a value's bytes, or the operand's refusal
abbrev pub stored_by : Tables → (p : ℕ) → Answer Value → Both (Result ⊤ Refusal)
stored_by t p (ok v) = written_of t p (bytes_of v)
stored_by t p (refused n) = both (Err n) t.store

-- the value's bytes are written through pointer p
unfoldable pub stored_of : Tables → (p : ℕ) → Result Found Refusal → Both (Result ⊤ Refusal)
stored_of t p v = stored_by t p (answer_of v)

-- Write: "two operands: where, what". "Write and Copy test the first for being a pointer (22) before the second is read."
unfoldable pub write_of : Tables → (image vars : List ℕ) → (at : ℕ) → Both (Result Progress Refusal)
write_of t s vars at =
    let to = operand_at s at in
    either (pointer_in vars to) (λ n. both (Err n) t.store) (λ p.
    went_on t.registers (stored_of t p (evaluated vars (operand_at s to.next))))

-- ---- Read

-- what bytes are, as a tag and bits; a type's own number of bytes is never short
abbrev pub loaded_as : Code.Option (Result IrValue Refusal) → Result Found Refusal
loaded_as (Some r) = found_as r
loaded_as None = Err beyond_length

-- the value that was read, or the refusal; 31 is its last check
abbrev pub value_in : IrType → Result ⊤ Refusal → (bytes : List ℕ) → Answer Value
value_in ty (Ok u) bytes = from_bytes ty bytes
value_in ty (Err n) bytes = refused n

-- a value of the type, through pointer p
unfoldable pub read_as : Tables → (p : ℕ) → IrType → (image extents : List ℕ) → Answer Value
read_as t p ty s extents =
    let r = read_of t p (replicate (size (kind_of ty)) 0) s extents in
    value_in ty r.answer r.table

-- an accepted instruction has no other type
abbrev pub read_by : Tables → (p : ℕ) → Option IrType → (image extents : List ℕ) → Answer Value
read_by t p none s extents = refused no_instruction
read_by t p (some ty) s extents = read_as t p ty s extents

-- Read: "to, operand, type"
unfoldable pub reading_of : Tables → (image extents vars : List ℕ) → (at : ℕ) → Both (Result Progress Refusal)
reading_of t s extents vars at =
    let to = field_at s at in
    let from = operand_at s to.next in
    either (pointer_in vars from) (λ n. both (Err n) vars) (λ p.
    finished_of t.registers vars to.value (found_of (read_by t p (type_at (field_at s from.next).value) s extents)))

-- ---- Initialize

-- the new pointer, where its bytes were written
abbrev pub given_by : Result ⊤ Refusal → (p : ℕ) → Registers → Result (ℕ × Registers) Refusal
given_by (Ok u) p m = Ok (p, m)
given_by (Err n) p m = Err n

-- the bytes go through the pointer that was given out
abbrev pub filled_by : Result (ℕ × Registers) Refusal → (store frames bounds pointers bytes : List ℕ) → Out
filled_by (Err n) s f b p bytes = out (Err n) s f b p
filled_by (Ok (q, m)) s f b p bytes =
    let r = written_of (record { registers = m; store = s; frames = f; bounds = b; pointers = p }) q bytes in
    out (given_by r.answer q m) r.table f b p

-- bytes more, with these at their start
unfoldable pub made_of : Tables → (size : ℕ) → (bytes : List ℕ) → Out
made_of t n bytes =
    let r = allocated_of t n in
    filled_by r.answer r.store r.frames r.bounds r.pointers bytes

-- a refusal, and every table as it stood
abbrev pub unstepped : Tables → (vars : List ℕ) → Refusal → Stepped
unstepped t vars n = stepped (Err n) t.store t.frames t.bounds t.pointers vars

-- the new pointer goes to a variable
abbrev pub initialized_by : Out → (vars : List ℕ) → (to : ℕ) → Stepped
initialized_by r vars to =
    let w = pointed_of r.answer vars to in
    stepped w.answer r.store r.frames r.bounds r.pointers w.table

-- Initialize: "to, size .., count .., raw bytes". "34, then allocate."
unfoldable pub initialized_of : Tables → (image vars : List ℕ) → (at : ℕ) → Stepped
initialized_of t s vars at =
    let to = field_at s at in
    let n = field_at s to.next in
    let count = field_at s n.next in
    pick (ltb n.value count.value) (unstepped t vars bytes_exceed_size)
    (pick (ltb (length s) count.next) (unstepped t vars no_instruction)
    (pick (ltb (length s - count.next) count.value) (unstepped t vars no_instruction)
    (initialized_by (made_of t n.value (take count.value (drop count.next s))) vars to.value)))

-- ---- Copy

-- Copy: "operand to, operand from, u32". Both are pointers (21, 22 each in turn) before either is followed
unfoldable pub copying_of : Tables → (image extents vars : List ℕ) → (at : ℕ) → Both (Result Progress Refusal)
copying_of t s extents vars at =
    let to = operand_at s at in
    let from = operand_at s to.next in
    either (pointer_in vars to) (λ n. both (Err n) t.store) (λ p.
    either (pointer_in vars from) (λ n. both (Err n) t.store) (λ q.
    went_on t.registers (copied_of t p q (field_at s from.next).value s extents)))
