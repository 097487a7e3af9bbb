-- The tables as the memory a reader believes, and what an answer with the tables after it says in that memory's words.
use Rattle.std.specs.Prelude.{ℕ, zero, suc, ◌+◌, ◌-◌, ◌*◌, ◌/◌, Bool, List, [], ◌∷◌, ◌++◌, get_or, length, take, drop, eqb, Result, Ok, Err, ⊤}
use Rattle.std.proofs.Math.Option.{Option, none, some}
use Rattle.value.specs.declared.refusal.Refusal.{Refusal}
use Rattle.value.specs.Answer.{Answer, ok, refused, pick}
use Rattle.value.specs.Value.{Value}
use Rattle.memory.specs.Memory.{Back, Frame, Pointer, constant, local, Memory}
use Rattle.memory.specs.Live.{Live, listed}
use Rattle.memory.specs.Stored.{stored_value}
use Rattle.memory.specs.Tables.{Tables, tables, Both, Out, Columns, pointer_at}
use Rattle.memory.specs.declared.Registers.{Registers}
use Rattle.memory.specs.declared.PointerRecord.{PointerRecord}
use Rattle.memory.specs.declared.Popped.{Popped}
use Rattle.std.specs.Prelude as Code
use Rattle.std.specs.Prelude.{Some, None}

-- ---- the state

-- f 0 to f (n - 1)
unfoldable pub tab : {A : Type 0} → ℕ → (ℕ → A) → List A
tab zero f = []
tab (suc n) f = tab n f ++ (f n ∷ [])

-- n elements from x on
abbrev pub part : List ℕ → (x n : ℕ) → List ℕ
part s x n = take n (drop x s)

-- the bytes of allocation k, of those from lo to below hi
abbrev pub bytes_of : (bounds store : List ℕ) → (k : ℕ) → List ℕ
bytes_of bo store k = part store (get_or bo k 0) (get_or bo (k + 1) 0 - get_or bo k 0)

unfoldable pub allocations_in : (bounds store : List ℕ) → (lo hi : ℕ) → List (List ℕ)
allocations_in bo store lo hi = tab (hi - lo) (λ j. bytes_of bo store (lo + j))

-- the return variable + 1, or 0 for none
unfoldable pub variable_in : ℕ → Option ℕ
variable_in zero = none
variable_in (suc x) = some x

abbrev pub back_in : (place variable : ℕ) → Back
back_in p v = record { place = p; var = variable_in v }

abbrev pub frame_in : (frames bounds store : List ℕ) → ℕ → Frame
frame_in fr bo store i = record {
  id = get_or fr (i * 4) 0;
  back = back_in (get_or fr (i * 4 + 1) 0) (get_or fr (i * 4 + 2) 0);
  allocations = allocations_in bo store (get_or fr (i * 4 + 3) 0) (get_or fr (i * 4 + 7) 0);
}

unfoldable pub pointer_in : PointerRecord → Pointer
pointer_in q = pick (eqb q.kind 0) (local q.index q.id q.allocation q.offset) (constant q.index)

unfoldable pub view : Tables → Memory
view t = record {
  counter = t.registers.counter;
  frames = tab t.registers.depth (frame_in t.frames t.bounds t.store);
  pointers = tab t.registers.pointers (λ p. pointer_in (pointer_at t.pointers p));
}

-- the rest of the machine: whether it runs, and its variables
abbrev pub running_in : ℕ → Bool
running_in r = eqb r 1

unfoldable pub variables_in : List ℕ → ℕ → Option Value
variables_in vs x = stored_value (get_or vs (x * 2) 0) (get_or vs (x * 2 + 1) 0)

-- an image's constants, by their starts and lengths
unfoldable pub constants_in : (raw extents : List ℕ) → List (List ℕ)
constants_in raw extents = tab (length extents / 2) (λ k. part raw (get_or extents (k * 2) 0) (get_or extents (k * 2 + 1) 0))

-- ---- answers

abbrev pub on_moved : (Result Registers Refusal) → (Registers → Memory) → Answer Memory
on_moved (Ok m) f = ok (f m)
on_moved (Err n) f = refused n

abbrev pub on_given : (Result (ℕ × Registers) Refusal) → (Registers → Memory) → Answer Memory
on_given (Ok (p, m)) f = ok (f m)
on_given (Err n) f = refused n

abbrev pub on_outcome : {A : Type 0} → (Result ⊤ Refusal) → A → Answer A
on_outcome (Ok u) a = ok a
on_outcome (Err n) a = refused n

-- each with the one table that changed, the others as in t
unfoldable pub after_push : Tables → Both (Result Registers Refusal) → Answer Memory
after_push t b = on_moved b.answer (λ m. view (tables m t.store b.table t.bounds t.pointers))

abbrev pub after_pop : Tables → Result (Code.Option Popped) Refusal → Option (Back × Memory)
after_pop t (Ok (Some p)) = some (back_in p.place p.variable, view (tables p.registers t.store t.frames t.bounds t.pointers))
after_pop t (Ok None) = none
after_pop t (Err n) = none

unfoldable pub after_allocate : Out → Answer Memory
after_allocate o = on_given o.answer (λ m. view (tables m o.store o.frames o.bounds o.pointers))

unfoldable pub after_write : Tables → Both (Result ⊤ Refusal) → Answer Memory
after_write t b = on_outcome b.answer (view (tables t.registers b.table t.frames t.bounds t.pointers))

unfoldable pub after_read : Both (Result ⊤ Refusal) → Answer (List ℕ)
after_read b = on_outcome b.answer b.table

unfoldable pub after_pointer : Tables → Both (Result (ℕ × Registers) Refusal) → Answer Memory
after_pointer t b = on_given b.answer (λ m. view (tables m t.store t.frames t.bounds b.table))

-- record p of the live list, as the four slices have it
unfoldable pub live_in : Columns → ℕ → Live
live_in c p = listed (eqb (get_or c.live p 0) 1) (get_or c.frame p 0) (get_or c.allocation p 0) (get_or c.offset p 0)
