-- What is promised of every entry, whatever the state and the program.
use Rattle.std.specs.Prelude.{ℕ, Bool, false, ◌||◌, ◌≡◌, List, [], ◌∷◌, ◌++◌, T, eqb}
use Rattle.std.proofs.Math.Option.{Option}
use Rattle.value.specs.declared.refusal.Refusal.{Refusal}
use Rattle.value.specs.Refusal as Refusal
use Rattle.value.specs.Refusal.{no_instruction, never_set, wrong_kinds, outside_width, zero_divisor, not_given_out, through_constant, frame_gone, no_allocation, beyond_length, misaligned, not_bool, no_return_place, offset_too_large, bytes_exceed_size, frames_full, ids_spent, allocations_full, bytes_full, pointers_full, no_constant, number_of}
use Rattle.value.specs.Answer.{ok, refused}
use Rattle.value.specs.Value.{Value}
use Rattle.image.specs.Program.{Program, Instruction, Jump, Switch, Assign, ConstantAddress, Call, Return, IntCmp', FloatCmp', Add, Sub, Mul, Div, Mod, FDiv, Not, Negate, Offset, Initialize, Write, Read, Copy, Drop}
use Rattle.memory.specs.Memory.{Memory}
use Rattle.machine.specs.Machine.{Machine, ended, stopped, execute, step, run_from}
use Rattle.machine.specs.Believed.{believed}
use Rattle.machine.specs.Sound.{sound}
use Rattle.machine.specs.Accepted.{accepted, accepted_ask}
use Rattle.machine.specs.Asks.{Ask, to_allocate, to_write, to_read, to_start, to_step, to_run, to_list, refusal, ran, turn}
use Rattle.machine.specs.Entries.{enter}
use Rattle.machine.specs.Count.{Means}

-- "A refusal leaves state and lent buffers untouched, except that a run keeps the steps done before it."
abbrev pub RefusedChangesNothing : Type 0
RefusedChangesNothing = (a : Ask) (s : Machine Memory) (k : Refusal) → (enter a s).reply ≡ refusal k → (enter a s).machine ≡ s

-- "10 state not sound": whatever is asked, before all else, and the state stays
abbrev pub UnsoundRefused : Type 0
UnsoundRefused = (a : Ask) (s : Machine Memory) → sound s ≡ false → enter a s ≡ turn (refusal Refusal.not_sound) s

-- a sound state stays sound, with any accepted program
abbrev pub KeepsSound : Type 0
KeepsSound = (a : Ask) (s : Machine Memory) → T (accepted_ask a) → T (sound s) → T (sound (enter a s).machine)

-- "the count is the number of definition steps taken"; where a run is refused, the machine is the one that the steps before left
abbrev pub CountIsSteps : Type 0
CountIsSteps = (P : Program) (budget : ℕ) (s : Machine Memory) → Means believed P budget s (run_from believed P budget 0 s)

-- "After returned the machine is idle; next place, variables and root memory stay."
abbrev pub ReturnedStays : Type 0
ReturnedStays = (P : Program) (s s' : Machine Memory) (v : Option Value) → step believed P s ≡ ok (ended v s')
    → s' ≡ record { memory = s.memory; running = false; place = s.place; vars = s.vars }

-- ---- the refusals that each can give

-- k is one of these
unfoldable pub is_among : Refusal → List Refusal → Bool
is_among k [] = false
is_among k (n ∷ ns) = eqb (number_of k) (number_of n) || is_among k ns

-- "Allocating checks 37, 38, 39"
abbrev pub room_refusals : List Refusal
room_refusals = allocations_full ∷ bytes_full ∷ pointers_full ∷ []

-- "Local access: 25, 26, 27, 28, 29, 30, then 31": those of the frame and the allocation
abbrev pub access_refusals : List Refusal
access_refusals = frame_gone ∷ no_allocation ∷ beyond_length ∷ misaligned ∷ []

-- as "Steps, in the order of their checks" has them
unfoldable pub instruction_refusals : Instruction → List Refusal
instruction_refusals (Jump label) = []
instruction_refusals (Switch x branches default) = never_set ∷ wrong_kinds ∷ []
instruction_refusals (Assign to x type) = never_set ∷ []
instruction_refusals (ConstantAddress to k) = pointers_full ∷ []
instruction_refusals (Call to context f arguments return_pointer) = frames_full ∷ ids_spent ∷ never_set ∷ room_refusals
instruction_refusals (Return x) = never_set ∷ no_return_place ∷ []
instruction_refusals (IntCmp' to cmp x y) = never_set ∷ wrong_kinds ∷ []
instruction_refusals (FloatCmp' to cmp x y) = never_set ∷ wrong_kinds ∷ []
instruction_refusals (Add to x y) = never_set ∷ wrong_kinds ∷ outside_width ∷ []
instruction_refusals (Sub to x y) = never_set ∷ wrong_kinds ∷ outside_width ∷ []
instruction_refusals (Mul to x y) = never_set ∷ wrong_kinds ∷ outside_width ∷ []
instruction_refusals (Div to signed x y) = never_set ∷ wrong_kinds ∷ zero_divisor ∷ outside_width ∷ []
instruction_refusals (Mod to signed x y) = never_set ∷ wrong_kinds ∷ zero_divisor ∷ outside_width ∷ []
instruction_refusals (FDiv to x y) = never_set ∷ wrong_kinds ∷ []
instruction_refusals (Not to x) = never_set ∷ wrong_kinds ∷ []
instruction_refusals (Negate to x) = never_set ∷ wrong_kinds ∷ outside_width ∷ []
instruction_refusals (Offset to x d) = never_set ∷ wrong_kinds ∷ not_given_out ∷ through_constant ∷ offset_too_large ∷ pointers_full ∷ []
instruction_refusals (Initialize to size bytes) = bytes_exceed_size ∷ room_refusals
instruction_refusals (Write x y) = never_set ∷ wrong_kinds ∷ not_given_out ∷ through_constant ∷ access_refusals
instruction_refusals (Read to x type) = never_set ∷ wrong_kinds ∷ not_given_out ∷ no_constant ∷ not_bool ∷ access_refusals
instruction_refusals (Copy x y size) = never_set ∷ wrong_kinds ∷ not_given_out ∷ through_constant ∷ no_constant ∷ access_refusals
instruction_refusals (Drop x) = []

-- of any instruction, 20 to 40
abbrev pub step_refusals : List Refusal
step_refusals =
    no_instruction ∷ never_set ∷ wrong_kinds ∷ outside_width ∷ zero_divisor ∷ not_given_out ∷ through_constant ∷ frame_gone ∷ no_allocation ∷ beyond_length ∷ misaligned ∷ not_bool
    ∷ no_return_place ∷ offset_too_large ∷ bytes_exceed_size ∷ frames_full ∷ ids_spent ∷ allocations_full ∷ bytes_full ∷ pointers_full ∷ no_constant ∷ []

-- a refused instruction gives one of its refusals
abbrev pub InstructionsGive : Type 0
InstructionsGive = (P : Program) (s : Machine Memory) → T (sound s) → (x : Instruction) (k : Refusal) → execute believed P s x ≡ refused k → T (is_among k (instruction_refusals x))

-- of an entry, after its image was loaded. "Host checks run image, 10, then as allocating, Write, or Read without 31."
abbrev pub allocate_refusals : List Refusal
allocate_refusals = Refusal.not_sound ∷ room_refusals

abbrev pub write_refusals : List Refusal
write_refusals = Refusal.not_sound ∷ not_given_out ∷ through_constant ∷ access_refusals

abbrev pub read_refusals : List Refusal
read_refusals = Refusal.not_sound ∷ not_given_out ∷ no_constant ∷ access_refusals

-- "Order: image, 10, 11 or 12, 13, 14, 15, then room"
abbrev pub start_refusals : List Refusal
start_refusals = Refusal.not_sound ∷ Refusal.running ∷ Refusal.no_function ∷ Refusal.wrong_arguments ∷ Refusal.not_scalar ∷ room_refusals

-- "12 run on an idle one"; a step has those of its instruction too
abbrev pub run_refusals : List Refusal
run_refusals = Refusal.not_sound ∷ Refusal.idle ∷ []

-- "41 list table shorter than the pointers"
abbrev pub list_refusals : List Refusal
list_refusals = Refusal.not_sound ∷ Refusal.short_table ∷ []

unfoldable pub entry_refusals : Ask → List Refusal
entry_refusals (to_allocate n) = allocate_refusals
entry_refusals (to_write p bs) = write_refusals
entry_refusals (to_read P p n) = read_refusals
entry_refusals (to_start P f context gs) = start_refusals
entry_refusals (to_step P) = run_refusals ++ step_refusals
entry_refusals (to_run P budget) = run_refusals
entry_refusals (to_list room) = list_refusals

abbrev pub EntriesGive : Type 0
EntriesGive = (a : Ask) (s : Machine Memory) (k : Refusal) → (enter a s).reply ≡ refusal k → T (is_among k (entry_refusals a))

-- where a run stops, the refusal is a step's
abbrev pub RunsStopWith : Type 0
RunsStopWith = (P : Program) → T (accepted P) → (budget : ℕ) (s : Machine Memory) (k : Refusal) (n : ℕ) → (enter (to_run P budget) s).reply ≡ ran (stopped k) n → T (is_among k step_refusals)
