-- Sequences that are computed: one that the theorems speak of, a Call, a Write in it, its Return, and then reads through both pointers; one that stands in turn at each
-- instruction that they speak of; and one of refused and granted entries, in the order of their checks.
use Rattle.std.specs.Prelude.{ℕ, true, false, List, [], ◌∷◌, ◌++◌, replicate}
use Rattle.std.proofs.Math.Option.{none, some}
use Rattle.value.specs.Refusal.{frame_gone, running, idle, no_function, wrong_arguments, not_scalar, never_set, bytes_full, short_table}
use Rattle.value.specs.Value.{IrType, value, bool, u8, u32, pointer}
use Rattle.image.specs.Program.{Program, Item, variable, literal, Assign, Call, Return, Initialize, Write, Read, Copy}
use Rattle.memory.specs.Live.{listed}
use Rattle.memory.specs.Memory as Memory
use Rattle.machine.specs.Machine.{Machine, unset, returned, paused, stopped}
use Rattle.machine.specs.Accepted.{bad_char}
use Rattle.machine.specs.Asks.{Ask, to_allocate, to_start, to_step, to_run, to_read, to_list, Reply, done, gave, bytes, ran, lists, refusal}
use Rattle.machine.specs.Asks as Asks
use Rattle.machine.specs.Cases.{plain, of}

-- the function 0, with a slot in the variable 3, calls 1 and then 2, which have a slot each; 1 stores 7 in its own slot and 9 in its caller's
abbrev pub hands_back : Program
hands_back = of (plain 0 [] (record { var = 3; size = 4 } ∷ []) ∷ plain 1 [] (record { var = 4; size = 4 } ∷ []) ∷ plain 2 [] (record { var = 5; size = 4 } ∷ []) ∷ []) (
    (Call (some (record { to = 2; type = IrType.Pointer })) none 1 [] none ∷ Call none none 2 [] none ∷ Return none ∷ [])
    ∷ (Write (variable 4) (literal (value u32 7)) ∷ Write (variable 3) (literal (value u32 9)) ∷ Return (some (variable 4)) ∷ [])
    ∷ (Return none ∷ [])
    ∷ [])

-- pointer 0 is the caller's, 1 the callee's; 2 is that of the second callee, which stands at the index of the first
unfoldable pub asked : List Ask
asked =
    to_start hands_back 0 (value bool 0) []
    ∷ to_step hands_back
    ∷ to_step hands_back
    ∷ to_read hands_back 1 4
    ∷ to_step hands_back
    ∷ to_step hands_back
    ∷ to_read hands_back 0 4
    ∷ to_read hands_back 1 4
    ∷ to_step hands_back
    ∷ to_read hands_back 1 4
    ∷ to_read hands_back 2 4
    ∷ to_list 3
    ∷ []

unfoldable pub answered : List Reply
answered =
    done
    ∷ done
    ∷ done
    ∷ bytes (7 ∷ 0 ∷ 0 ∷ 0 ∷ [])
    ∷ done
    ∷ done
    ∷ bytes (9 ∷ 0 ∷ 0 ∷ 0 ∷ [])
    ∷ refusal frame_gone
    ∷ done
    ∷ refusal frame_gone
    ∷ bytes (0 ∷ 0 ∷ 0 ∷ 0 ∷ [])
    ∷ lists (listed true 0 0 0 ∷ listed false 1 0 0 ∷ listed true 1 0 0 ∷ [])
    ∷ []

-- ---- each instruction in turn

-- an allocation of two bytes in four, a store over them, another that they are copied to and read from, and a call with a slot
abbrev pub walks : Program
walks = of (plain 0 [] [] ∷ plain 1 [] (record { var = 5; size = 4 } ∷ []) ∷ []) (
    (Initialize 3 4 (1 ∷ 2 ∷ [])
    ∷ Write (variable 3) (literal (value u32 0x04030201))
    ∷ Initialize 4 4 []
    ∷ Copy (variable 4) (variable 3) 4
    ∷ Read 2 (variable 4) IrType.U32
    ∷ Call none none 1 [] none
    ∷ Return (some (variable 2))
    ∷ [])
    ∷ (Return none ∷ [])
    ∷ [])

-- a start, and so many steps
unfoldable pub walked : (steps : ℕ) → List Ask
walked n = to_start walks 0 (value bool 0) [] ∷ replicate n (to_step walks)

unfoldable pub walk_answered : List Reply
walk_answered = done ∷ replicate 7 done ++ (Asks.returned (some (value u32 0x04030201)) ∷ [])

-- ---- the entries

-- the function 0 returns its argument by the variable 5, 1 its return pointer, and 2 the variable 5; 3 has room for its first slot and not for its second
abbrev pub starts : Program
starts = of (
    plain 0 (2 ∷ []) []
    ∷ record { item = Item.function; entry = 1; return_var = 0; context_var = 1; return_pointer = true; parameters = []; slots = [] }
    ∷ plain 2 [] []
    ∷ plain 2 [] (record { var = 6; size = 1 } ∷ record { var = 7; size = 32768 } ∷ [])
    ∷ []) (
    (Assign 5 (variable 2) IrType.U8 ∷ Return (some (variable 5)) ∷ [])
    ∷ (Return (some (variable 0)) ∷ [])
    ∷ (Return (some (variable 5)) ∷ [])
    ∷ [])

-- "Order: .. 11 or 12, 13, 14, 15, then room": each of the first is refused by the first of its faults. The host allocates while the run is paused; nothing of a start without
-- room remains, no slot's pointer and no running machine; a start clears the variable 5, and after a refused instruction the machine still runs.
unfoldable pub entered : List Ask
entered =
    to_step starts
    ∷ to_run starts 9
    ∷ to_start starts 9 bad_char []
    ∷ to_start starts 0 bad_char []
    ∷ to_start starts 0 (value bool 0) (value u8 1 ∷ value u8 2 ∷ [])
    ∷ to_start starts 0 bad_char (value u8 1 ∷ [])
    ∷ to_start starts 0 (value bool 0) (bad_char ∷ [])
    ∷ to_start starts 0 (value bool 0) (value u8 7 ∷ [])
    ∷ to_start starts 9 (value bool 0) []
    ∷ to_run starts 1
    ∷ to_allocate 4
    ∷ to_list 0
    ∷ to_list 1
    ∷ to_run starts 9
    ∷ to_start starts 3 bad_char []
    ∷ to_start starts 3 (value bool 0) []
    ∷ to_list 1
    ∷ to_run starts 9
    ∷ to_start starts 1 (value bool 0) (value pointer 3 ∷ [])
    ∷ to_run starts 9
    ∷ to_start starts 2 (value bool 0) []
    ∷ to_run starts 9
    ∷ to_start starts 2 (value bool 0) []
    ∷ []

unfoldable pub replied : List Reply
replied =
    refusal idle
    ∷ refusal idle
    ∷ refusal no_function
    ∷ refusal wrong_arguments
    ∷ refusal wrong_arguments
    ∷ refusal not_scalar
    ∷ refusal not_scalar
    ∷ done
    ∷ refusal running
    ∷ ran paused 1
    ∷ gave 0
    ∷ refusal short_table
    ∷ lists (listed true 0 0 0 ∷ [])
    ∷ ran (returned (some (value u8 7))) 1
    ∷ refusal not_scalar
    ∷ refusal bytes_full
    ∷ lists (listed true 0 0 0 ∷ [])
    ∷ refusal idle
    ∷ done
    ∷ ran (returned (some (value pointer 3))) 1
    ∷ done
    ∷ ran (stopped never_set) 0
    ∷ refusal running
    ∷ []

-- a state that is not sound: its next place is 4,097
abbrev pub beyond : Machine Memory.Memory
beyond = record { memory = Memory.fresh; running = false; place = 4097; vars = unset }
