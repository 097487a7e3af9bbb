-- Room for a frame and for slots, or the refusal that they would meet.
use Rattle.std.specs.Prelude.{ℕ, zero, suc, ◌+◌, ◌*◌, List, length, get_or, ltb, leb, Result, Ok, Err, ⊤}
use Rattle.std.specs.Result.{result_and}
use Rattle.value.specs.declared.refusal.Refusal.{Refusal}
use Rattle.value.specs.Refusal.{not_sound, frames_full, ids_spent, allocations_full}
use Rattle.value.specs.Answer.{pick}
use Rattle.memory.specs.Tables.{ready_of, room_of}
use Rattle.memory.specs.declared.Registers.{Registers}
use Rattle.calls.specs.Fields.{slot_at}
use Rattle.calls.specs.declared.fields.Callee.{Callee}

-- "35 64 frames stand, root included"; "36 id counter is 4,294,967,295"
unfoldable pub frame_room_of : (depth counter : ℕ) → Result ⊤ Refusal
frame_room_of d c = pick (leb 64 d) (Err frames_full) (pick (leb 4294967295 c) (Err ids_spent) (Ok tt))

-- "37 512 live allocations", then 38 and 39
unfoldable pub slot_room_of : (live used given size : ℕ) → Result ⊤ Refusal
slot_room_of l u g size = pick (leb 512 l) (Err allocations_full) (room_of u size g)

-- n slots one after another, each with those before it counted
unfoldable pub slots_room_of : (image : List ℕ) → (n at live used given : ℕ) → Result ⊤ Refusal
slots_room_of s zero at l u g = Ok tt
slots_room_of s (suc n) at l u g =
    let x = slot_at s at in
    result_and (slot_room_of l u g x.size) (slots_room_of s n x.next (l + 1) (u + x.size) (g + 1))

-- a function's slots, in tables of these lengths
unfoldable pub room_in_of : Registers → (image : List ℕ) → Callee → (store : ℕ) → (frames bounds : List ℕ) → (pointers : ℕ) → Result ⊤ Refusal
room_in_of m s f store fr bo pointers =
    let live = get_or fr (m.depth * 4 + 3) 0 in
    pick (ready_of m.depth m.pointers store (length fr) (length bo) pointers)
    (pick (ltb 512 live) (Err not_sound) (slots_room_of s f.count f.slots live (get_or bo live 0) m.pointers))
    (Err not_sound)

-- a frame more, then the callee's slots
unfoldable pub call_room_of : Registers → (image : List ℕ) → Callee → (store : ℕ) → (frames bounds : List ℕ) → (pointers : ℕ) → Result ⊤ Refusal
call_room_of m s f store fr bo pointers =
    result_and (frame_room_of m.depth m.counter) (room_in_of m s f store fr bo pointers)
