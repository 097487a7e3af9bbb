-- States that no run from fresh memory comes to, or only a long one: what is asked of each, and what it answers, computed. Each holds a rule or an order of checks that the
-- cases from fresh memory cannot show.
use Rattle.std.specs.Prelude.{ℕ, zero, suc, ◌-◌, ◌^◌, true, List, [], ◌∷◌, replicate}
use Rattle.std.proofs.Math.Option.{Option, none, some}
use Rattle.value.specs.declared.refusal.Refusal.{Refusal}
use Rattle.value.specs.Refusal.{not_sound, through_constant, frame_gone, beyond_length, offset_too_large, bytes_exceed_size, frames_full, ids_spent, allocations_full, bytes_full, pointers_full}
use Rattle.value.specs.Value.{Value, value, u8, pointer, IrType}
use Rattle.image.specs.Program.{Program, variable, literal, Instruction, Call, Return, Offset, Initialize, Read}
use Rattle.memory.specs.Memory.{Back, Frame, Pointer, constant, local, Memory, no_back}
use Rattle.machine.specs.Machine.{Machine, unset, set_to, returned}
use Rattle.machine.specs.Asks.{Ask, to_allocate, to_step, to_run, Reply, done, ran, refusal}
use Rattle.machine.specs.Asks as Asks
use Rattle.machine.specs.Entries.{answers, onwards}
use Rattle.machine.specs.Cases.{plain, of, just}

-- ---- a case

pub record Order : Type 0 where
  pub state : Machine Memory
  pub asks : List Ask
  pub replies : List Reply
  pub left : Option Value  -- the variable 2 afterwards

abbrev pub order : Machine Memory → List Ask → List Reply → Option Value → Order
order s as' rs v = record { state = s; asks = as'; replies = rs; left = v }

-- the replies and the variable, as the machine gives them, and as the case says
abbrev pub given : Order → List Reply × Option Value
given c = (answers c.asks c.state, (onwards c.asks c.state).vars 2)

abbrev pub said : Order → List Reply × Option Value
said c = (c.replies, c.left)

-- ---- states

abbrev pub frame : (id : ℕ) → Back → (allocations : List (List ℕ)) → Frame
frame id back bss = record { id = id; back = back; allocations = bss }

-- n frames, with the ids from `id` on
unfoldable pub stack : (id n : ℕ) → List Frame
stack id zero = []
stack id (suc n) = frame id no_back [] ∷ stack (suc id) n

-- it runs, at place 0, and the variable 2 is U8 5, the variable 3 pointer 0
abbrev pub state : (counter : ℕ) → List Frame → List Pointer → Machine Memory
state counter fs ps = record {
  memory = record { counter = counter; frames = fs; pointers = ps };
  running = true;
  place = 0;
  vars = set_to (set_to unset 2 (value u8 5)) 3 (value pointer 0);
}

-- a root with so many allocations of no bytes, and one with an allocation of 8
abbrev pub many : ℕ → Frame
many n = frame 0 no_back (replicate n [])

abbrev pub eight : Frame
eight = frame 0 no_back (replicate 8 0 ∷ [])

-- no pointer more can be given: the first is this one
abbrev pub full : Pointer → List Pointer
full p = p ∷ replicate 4095 (constant 0)

-- one instruction; and the function 1, which has a slot and a parameter, called with a variable that is unset
abbrev pub one : Instruction → Program
one i = just (i ∷ [])

abbrev pub calls_unset : Program
calls_unset = of (plain 0 [] [] ∷ plain 0 (4 ∷ []) (record { var = 5; size = 1 } ∷ []) ∷ []) ((Call none none 1 (variable 9 ∷ []) none ∷ []) ∷ [])

-- a Return to place 0 with U8 7, for variables below 16; and one of the variable 200, for 256
abbrev pub returns_seven : Program
returns_seven = one (Return (some (literal (value u8 7))))

abbrev pub returns_last : Program
returns_last = record { variables = 256; constants = []; functions = []; blocks = (Return (some (variable 200)) ∷ []) ∷ [] }

-- ---- the list

-- the variable 2 as it was
abbrev pub kept : Option Value
kept = some (value u8 5)

-- a step at an instruction, refused
abbrev pub refuses : Machine Memory → Program → Refusal → Order
refuses s P n = order s (to_step P ∷ []) (refusal n ∷ []) kept

abbrev pub allocates : Machine Memory → (size : ℕ) → Refusal → Order
allocates s n k = order s (to_allocate n ∷ []) (refusal k ∷ []) kept

unfoldable pub orders : List Order
orders =
    -- "Call: 35, 36": 64 frames stand and the counter is at its end; and 63 with it
    refuses (state 4294967295 (stack 0 64) []) (one (Call none none 0 [] none)) frames_full
    ∷ refuses (state 4294967295 (stack 0 63) []) (one (Call none none 0 [] none)) ids_spent
    -- "Allocating checks 37, 38, 39": all three fail, the last two, the last
    ∷ allocates (state 1 (many 512 ∷ []) (full (constant 0))) 32769 allocations_full
    ∷ allocates (state 1 (many 511 ∷ []) (full (constant 0))) 32769 bytes_full
    ∷ allocates (state 1 (many 511 ∷ []) (full (constant 0))) 32768 pointers_full
    -- "Offset: 25, 26, 33, 39"
    ∷ refuses (state 1 (eight ∷ []) (full (constant 0))) (one (Offset 2 (variable 3) 1)) through_constant
    ∷ refuses (state 1 (eight ∷ []) (full (local 0 0 0 (2 ^ 64 - 1)))) (one (Offset 2 (variable 3) 1)) offset_too_large
    ∷ refuses (state 1 (eight ∷ []) (full (local 0 0 0 (2 ^ 64 - 2)))) (one (Offset 2 (variable 3) 1)) pointers_full
    -- "Initialize: 34, then allocate."
    ∷ refuses (state 1 (many 512 ∷ []) (full (constant 0))) (one (Initialize 2 0 (7 ∷ []))) bytes_exceed_size
    -- Call: "then the callee's slots, .. the arguments": room before 21
    ∷ refuses (state 1 (eight ∷ []) (full (constant 0))) calls_unset pointers_full
    -- "27 frame index not on the stack, or its id differs": the root's id is compared too, and whole
    ∷ refuses (state 9 (eight ∷ []) (local 0 5 0 0 ∷ [])) (one (Read 2 (variable 3) IrType.U64)) frame_gone
    ∷ refuses (state 9 (eight ∷ []) (local 0 (2 ^ 32) 0 0 ∷ [])) (one (Read 2 (variable 3) IrType.U64)) frame_gone
    -- "29 offset + size beyond the length": the sum does not wrap at 2^64
    ∷ refuses (state 1 (eight ∷ []) (local 0 0 0 (2 ^ 64 - 8) ∷ [])) (one (Read 2 (variable 3) IrType.U64)) beyond_length
    -- "A sound state": "frame 0 has id 0; ids rise up the stack and lie below the counter"
    ∷ refuses (state 9 (frame 1 no_back [] ∷ []) []) returns_seven not_sound
    ∷ refuses (state 9 (frame 0 no_back [] ∷ frame 2 no_back [] ∷ frame 1 no_back [] ∷ []) []) returns_seven not_sound
    ∷ refuses (state 2 (frame 0 no_back [] ∷ frame 2 no_back [] ∷ []) []) returns_seven not_sound
    -- a frame's return variable is set though it lies past the image's count: the next Return, of a larger program, gives it
    ∷ order (state 9 (frame 0 no_back [] ∷ frame 1 (record { place = 0; var = some 200 }) [] ∷ []) []) (to_step returns_seven ∷ to_run returns_last 9 ∷ [])
    (done ∷ ran (returned (some (value u8 7))) 1 ∷ []) kept
    -- "at root it ends the run": "variables .. stay", the root's return variable too
    ∷ order (state 1 (frame 0 (record { place = 0; var = some 2 }) [] ∷ []) []) (to_step returns_seven ∷ []) (Asks.returned (some (value u8 7)) ∷ []) kept
    ∷ []
