-- What one step of the code makes of registers and tables: the instruction at the next place, by its opcode.
use Rattle.std.specs.Prelude.{ℕ, ◌+◌, length, get_or, leb, eqb, Result, Ok, Err}
use Rattle.value.specs.declared.refusal.Refusal.{Refusal}
use Rattle.value.specs.Answer.{pick}
use Rattle.value.specs.Refusal.{no_instruction}
use Rattle.memory.specs.declared.Registers.{Registers}
use Rattle.memory.specs.Tables.{Tables, tables, Both, State}
use Rattle.instruction.specs.Decode.{field_at}
use Rattle.instruction.specs.Code.{Stepped, stepped, with_next, jumped_of, switched_of, assigned_of, combined_of, changed_of}
use Rattle.instruction.specs.Storage.{Pointed, addressed_of, offsetted_of, returned_of, write_of, reading_of, initialized_of, copying_of}
use Rattle.instruction.specs.declared.step.Progress.{Progress}
use Rattle.instruction.specs.declared.step.Progress.TheVariants.{Next}
use Rattle.calls.specs.Code.{called_of}
use Rattle.step.specs.Items.{Items}

-- ---- an answer, with the tables that changed and the others as they were

abbrev pub unchanged : State → (Result Progress Refusal) → Stepped
unchanged t r = stepped r t.memory.store t.memory.frames t.memory.bounds t.memory.pointers t.variables

abbrev pub with_variables : State → Both (Result Progress Refusal) → Stepped
with_variables t r = stepped r.answer t.memory.store t.memory.frames t.memory.bounds t.memory.pointers r.table

abbrev pub with_store : State → Both (Result Progress Refusal) → Stepped
with_store t r = stepped r.answer r.table t.memory.frames t.memory.bounds t.memory.pointers t.variables

abbrev pub with_pointers : State → Pointed → Stepped
with_pointers t r = stepped r.answer t.memory.store t.memory.frames t.memory.bounds r.pointers r.variables

-- ---- the step

-- the registers with the place after this one
abbrev pub onward : Registers → Registers
onward m = with_next m (m.next + 1)

abbrev pub moved : Tables → Tables
moved t = tables (onward t.registers) t.store t.frames t.bounds t.pointers

-- "One table gives each opcode's fields, opcodes 0 to 21": the instruction of this opcode, its fields from `at` on
unfoldable pub dispatched : Items → State → (opcode at : ℕ) → Stepped
dispatched i t n at =
    let s = i.bytes in
    let m = onward t.memory.registers in
    let vs = t.variables in
    pick (eqb n 0) (unchanged t (jumped_of m s i.labels at))
    (pick (eqb n 1) (unchanged t (switched_of m s i.labels vs at))
    (pick (eqb n 2) (with_variables t (assigned_of m s vs at))
    (pick (eqb n 3) (with_pointers t (addressed_of m s t.memory.pointers vs at))
    (pick (eqb n 4) (called_of (moved t.memory) vs s i.labels i.functions at)
    (pick (eqb n 5) (with_variables t (returned_of t.memory.registers s t.memory.frames vs at))
    (pick (leb n 13) (with_variables t (combined_of m n s vs at))
    (pick (leb n 15) (with_variables t (changed_of m n s vs at))
    (pick (eqb n 16) (with_pointers t (offsetted_of m s t.memory.pointers vs at))
    (pick (eqb n 17) (initialized_of (moved t.memory) s vs at)
    (pick (eqb n 18) (with_store t (write_of (moved t.memory) s vs at))
    (pick (eqb n 19) (with_variables t (reading_of (moved t.memory) s i.extents vs at))
    (pick (eqb n 20) (with_store t (copying_of (moved t.memory) s i.extents vs at))
    (pick (eqb n 21) (unchanged t (Ok (Next m))) (unchanged t (Err no_instruction)))))))))))))))

-- "20 no instruction at this place"
unfoldable pub stepped_of : Items → State → Stepped
stepped_of i t =
    let place = t.memory.registers.next in
    let opcode = field_at i.bytes (get_or i.places place 0) in
    pick (leb (length i.places) place) (unchanged t (Err no_instruction)) (dispatched i t opcode.value opcode.next)
