-- What a Call does to registers and tables, by its fields and its callee's.
use Rattle.std.specs.Prelude.{ℕ, zero, suc, List, length, eqb, Result, Ok, Err, ⊤}
use Rattle.value.specs.declared.refusal.Refusal.{Refusal}
use Rattle.value.specs.Refusal.{no_instruction}
use Rattle.value.specs.Answer.{Answer, ok, refused, pick}
use Rattle.memory.specs.declared.Registers.{Registers}
use Rattle.memory.specs.Tables.{Tables, tables, Out, pushed_of, allocated_of}
use Rattle.instruction.specs.Code.{Stepped, stepped, with_next}
use Rattle.instruction.specs.declared.step.Progress.{Progress}
use Rattle.instruction.specs.declared.step.Progress.TheVariants as progress
use Rattle.instruction.specs.Storage.{unstepped}
use Rattle.calls.specs.Fields.{slot_at, call_at, callee_at, place_in, entry_of}
use Rattle.calls.specs.Room.{call_room_of}
use Rattle.calls.specs.Variables.{slots_on}
use Rattle.calls.specs.declared.fields.CallFields.{CallFields}
use Rattle.calls.specs.declared.fields.Callee.{Callee}

-- an answer, with the memory's tables
pub record Entered : Type 0 where
  pub answer : Result Registers Refusal
  pub store : List ℕ
  pub frames : List ℕ
  pub bounds : List ℕ
  pub pointers : List ℕ

abbrev pub entered : (Result Registers Refusal) → (store frames bounds pointers : List ℕ) → Entered
entered a s f b p = record { answer = a; store = s; frames = f; bounds = b; pointers = p }

-- on with the tables that an allocation left, or its refusal
abbrev pub after_given : (Result (ℕ × Registers) Refusal) → (store frames bounds pointers : List ℕ) → (Tables → Entered) → Entered
after_given (Ok (p, m)) s f b q on = on (tables m s f b q)
after_given (Err n) s f b q on = entered (Err n) s f b q

abbrev pub after_slot : Out → (Tables → Entered) → Entered
after_slot o on = after_given o.answer o.store o.frames o.bounds o.pointers on

-- n slots, in order
unfoldable pub slots_made_of : (image : List ℕ) → (n at : ℕ) → Tables → Entered
slots_made_of s zero at t = entered (Ok t.registers) t.store t.frames t.bounds t.pointers
slots_made_of s (suc n) at t =
    let x = slot_at s at in
    after_slot (allocated_of t x.size) (λ t'. slots_made_of s n x.next t')

-- on with the frames that a push left, or its refusal
abbrev pub after_moved : (Result Registers Refusal) → (frames : List ℕ) → Tables → (Tables → Entered) → Entered
after_moved (Ok m) f t on = on (tables m t.store f t.bounds t.pointers)
after_moved (Err n) f t on = entered (Err n) t.store f t.bounds t.pointers

-- the callee's frame, which returns to the next place and to the variable `to`, and its slots
unfoldable pub entered_of : (image : List ℕ) → (to : ℕ) → Callee → Tables → Entered
entered_of s to f t =
    let pushed = pushed_of t.registers t.registers.next to t.frames in
    after_moved pushed.answer pushed.table t (λ t'. slots_made_of s f.count f.slots t')

-- on at this place
unfoldable pub arrived : (place : ℕ) → (Result Registers Refusal) → Result Progress Refusal
arrived k (Ok m) = Ok (progress.Next (with_next m k))
arrived k (Err n) = Err n

-- the memory's part, after the variables'
abbrev pub with_variables : Tables → List ℕ → (place : ℕ) → Answer (List ℕ) → Entered → Stepped
with_variables t vars k (ok vs) e = stepped (arrived k e.answer) e.store e.frames e.bounds e.pointers vs
with_variables t vars k (refused n) e = unstepped t vars n

-- where there is room; else nothing has changed
abbrev pub where_room : Result ⊤ Refusal → Tables → (vars : List ℕ) → Stepped → Stepped
where_room (Ok u) t vars a = a
where_room (Err n) t vars a = unstepped t vars n

unfoldable pub called_in : Tables → (vars image : List ℕ) → (place : ℕ) → CallFields → Callee → Stepped
called_in t vars s k call f =
    where_room (call_room_of t.registers s f (length t.store) t.frames t.bounds (length t.pointers)) t vars
    (with_variables t vars k (slots_on s call f f.count f.slots t.registers.pointers vars) (entered_of s call.to f t))

abbrev pub called_at : Tables → (vars image : List ℕ) → (Result ℕ Refusal) → CallFields → Callee → Stepped
called_at t vars s (Ok k) call f = called_in t vars s k call f
called_at t vars s (Err n) call f = unstepped t vars n

unfoldable pub called_of : Tables → (vars image labels functions : List ℕ) → (at : ℕ) → Stepped
called_of t vars s labels functions at =
    let call = call_at s at in
    let f = callee_at s (place_in functions call.callee) in
    pick (eqb call.next 0) (unstepped t vars no_instruction) (called_at t vars s (entry_of labels f) call f)
