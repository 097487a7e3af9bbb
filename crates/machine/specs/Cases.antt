-- P1 to P10 of 01, by their numbers, and orders of checks, as two lists that are computed: each case is a program, P1's from its image, started on fresh memory with these
-- arguments and run.
use Rattle.std.specs.Prelude.{ℕ, Bool, true, false, ◌&&◌, List, [], ◌∷◌, map, eqb}
use Rattle.std.proofs.Math.Option.{Option, none, some}
use Rattle.value.specs.Answer.{Answer, ok, refused, ◌>>=◌}
use Rattle.value.specs.Cases as Numbered
use Rattle.value.specs.Refusal.{never_set, wrong_kinds, outside_width, frame_gone, beyond_length, misaligned, not_bool, no_return_place, bytes_exceed_size, no_instruction, number_of}
use Rattle.value.specs.Value.{Value, value, Eq, ULt, FLt, FGt, IrType, bool, u8, u32, u64, i8, f32, f64, pointer, tag}
use Rattle.image.specs.Program.{Program, Operand, variable, literal, Slot, Item, Function, Instruction, Jump, Switch, Assign, ConstantAddress, Call, Return, IntCmp', FloatCmp', Add, Sub, Mul, Div, Mod, FDiv, Not, Negate, Offset, Initialize, Write, Read, Copy, Drop}
use Rattle.image.specs.Image.{loaded}
use Rattle.image.specs.Cases.{p1_image, program_taken}
use Rattle.machine.specs.Machine as M
use Rattle.machine.specs.Machine.{Memories, Outcome, returned, paused, stopped, Ran}

-- ---- a case

pub record Case : Type 0 where
  pub program : Program
  pub arguments : List Value
  pub budget : ℕ
  pub outcome : Outcome
  pub count : ℕ

unfoldable pub same_value : Option Value → Option Value → Bool
same_value none none = true
same_value none (some w) = false
same_value (some v) none = false
same_value (some v) (some w) = eqb (tag v.kind) (tag w.kind) && eqb v.bits w.bits

unfoldable pub same_outcome : Outcome → Outcome → Bool
same_outcome (returned v) (returned w) = same_value v w
same_outcome (returned v) paused = false
same_outcome (returned v) (stopped n) = false
same_outcome paused (returned w) = false
same_outcome paused paused = true
same_outcome paused (stopped n) = false
same_outcome (stopped m) (returned w) = false
same_outcome (stopped m) paused = false
same_outcome (stopped m) (stopped n) = eqb (number_of m) (number_of n)

unfoldable pub ran : {M : Type 0} → Case → Answer (Ran M) → Bool
ran c (ok r) = same_outcome r.outcome c.outcome && eqb r.count c.count
ran c (refused n) = false

-- the function 0 is started, with the context Bool 0, and run
unfoldable pub runs : {M : Type 0} → Memories M → Case → Answer (Ran M)
runs mem c = M.start mem c.program 0 (value bool 0) c.arguments (M.fresh mem) >>= λ s. M.run mem c.program c.budget s

unfoldable pub all_hold : {M : Type 0} → Memories M → List Case → Bool
all_hold mem [] = true
all_hold mem (c ∷ cs) = ran c (runs mem c) && all_hold mem cs

-- a case of one of P1 to P10
pub record Paper : Type 0 where
  pub number : ℕ
  pub case : Case

-- by number, whether each comes out over a memory
abbrev pub shown : {M : Type 0} → Memories M → List Paper → List Numbered.Case
shown mem ps = map (λ (p : Paper). record { number = p.number; holds = ran p.case (runs mem p.case) }) ps

-- ---- the programs

-- return variable 0, context variable 1, and these parameters and slots
abbrev pub plain : (entry : ℕ) → List ℕ → List Slot → Function
plain entry parameters slots = record { item = Item.function; entry = entry; return_var = 0; context_var = 1; return_pointer = false; parameters = parameters; slots = slots }

abbrev pub of : List Function → List (List Instruction) → Program
of fs bs = record { variables = 16; constants = []; functions = fs; blocks = bs }

-- one function of one block
abbrev pub just : List Instruction → Program
just is = of (plain 0 [] [] ∷ []) (is ∷ [])

-- P1: the program that its bytes load as
abbrev pub p1 : Program
p1 = program_taken (loaded p1_image)

-- a step that sets the variable 2, and its return
abbrev pub gives : Instruction → Program
gives i = just (i ∷ Return (some (variable 2)) ∷ [])

-- P4: a read of 4 bytes at an offset of an allocation of 8
abbrev pub p4 : (offset : ℕ) → Program
p4 o = just (Initialize 3 8 [] ∷ Offset 4 (variable 3) o ∷ Read 2 (variable 4) IrType.U32 ∷ Return (some (variable 2)) ∷ [])

-- P5: a copy of 0 bytes from an offset of an allocation of 8
abbrev pub p5 : (offset : ℕ) → Program
p5 o = just (Initialize 3 8 [] ∷ Offset 4 (variable 3) o ∷ Copy (variable 3) (variable 4) 0 ∷ Return none ∷ [])

-- P7
abbrev pub p7 : Program
p7 = just (Initialize 3 1 (2 ∷ []) ∷ Read 2 (variable 3) IrType.Boolean ∷ Return (some (variable 2)) ∷ [])

-- P8: f(a, b), where the context is 0, calls f(b, a) with a context of 1, and there gives 16 a + b
abbrev pub p8 : Program
p8 = of (plain 0 (3 ∷ 4 ∷ []) [] ∷ []) (
    (Switch (variable 1) (record { number = 1; label = 2 } ∷ []) 1 ∷ [])
    ∷ (Call (some (record { to = 5; type = IrType.U8 })) (some (literal (value bool 1))) 0 (variable 4 ∷ variable 3 ∷ []) none ∷ Return (some (variable 5)) ∷ [])
    ∷ (Mul 6 (variable 3) (literal (value u8 16)) ∷ Add 6 (variable 6) (variable 4) ∷ Return (some (variable 6)) ∷ [])
    ∷ [])

-- P9
abbrev pub p9 : Program
p9 = of (plain 0 [] [] ∷ []) (
    (Switch (literal (value u8 7)) (record { number = 7; label = 1 } ∷ record { number = 7; label = 2 } ∷ []) 3 ∷ [])
    ∷ (Return (some (literal (value u8 1))) ∷ [])
    ∷ (Return (some (literal (value u8 2))) ∷ [])
    ∷ (Return (some (literal (value u8 3))) ∷ [])
    ∷ [])

-- P10: a call returns the pointer of its slot; a second call, which has a slot too, reads through it
abbrev pub p10 : Program
p10 = of (plain 0 [] [] ∷ plain 1 [] (record { var = 3; size = 4 } ∷ []) ∷ plain 2 [] (record { var = 4; size = 4 } ∷ []) ∷ []) (
    (Call (some (record { to = 2; type = IrType.Pointer })) none 1 [] none ∷ Call none none 2 [] none ∷ Return none ∷ [])
    ∷ (Return (some (variable 3)) ∷ [])
    ∷ (Read 5 (variable 2) IrType.U32 ∷ Return none ∷ [])
    ∷ [])

-- Copy: its read's faults come before its write's; here the read is unaligned and the number to write through was not given out
abbrev pub copies : Program
copies = just (Initialize 3 8 [] ∷ Offset 4 (variable 3) 2 ∷ Copy (literal (value pointer 99)) (variable 4) 4 ∷ Return none ∷ [])

-- Write: the first operand's kind is tested before the second is read
abbrev pub writes : Program
writes = just (Write (literal (value u8 0)) (variable 2) ∷ Return none ∷ [])

-- a call of f(a) with these arguments, where the variable 3 is a and was 1 before the call, and f sets the variable 4; what is then in `result`
abbrev pub calls : List Operand → (returned : Option Operand) → (result : ℕ) → Program
calls arguments value' result = of (plain 0 [] [] ∷ plain 1 (3 ∷ []) [] ∷ []) (
    (Assign 3 (literal (value u8 1)) IrType.U8 ∷ Assign 4 (literal (value u8 2)) IrType.U8 ∷ Call none none 1 arguments none ∷ Return (some (variable result)) ∷ [])
    ∷ (Assign 4 (literal (value u8 5)) IrType.U8 ∷ Return value' ∷ [])
    ∷ [])

-- Jump: a label is a block's position, and its place the number of instructions before it
abbrev pub jumps : Program
jumps = of (plain 0 [] [] ∷ []) (
    (Assign 2 (literal (value u8 0)) IrType.U8 ∷ Jump 2 ∷ [])
    ∷ (Return (some (literal (value u8 1))) ∷ [])
    ∷ (Return (some (literal (value u8 2))) ∷ [])
    ∷ [])

-- Call: the return pointer is read before the context is set, and goes to the callee's variable though it is not flagged
abbrev pub pointers : Program
pointers = of (plain 0 [] [] ∷ plain 1 [] [] ∷ []) (
    (Call (some (record { to = 2; type = IrType.U8 })) (some (literal (value u8 9))) 1 [] (some 1) ∷ Return (some (variable 2)) ∷ [])
    ∷ (Return (some (variable 0)) ∷ [])
    ∷ [])

-- ConstantAddress: the second constant's byte
abbrev pub constants : Program
constants = record {
  variables = 16;
  constants = (1 ∷ []) ∷ (2 ∷ []) ∷ [];
  functions = plain 0 [] [] ∷ [];
  blocks = (ConstantAddress 3 1 ∷ Read 2 (variable 3) IrType.U8 ∷ Return (some (variable 2)) ∷ []) ∷ [];
}

-- the functions' entries are other blocks than their numbers: the start enters at 1, and the Call of 1 at 2
abbrev pub enters : Program
enters = of (plain 1 [] [] ∷ plain 2 [] [] ∷ []) (
    (Return (some (literal (value u8 1))) ∷ [])
    ∷ (Call (some (record { to = 2; type = IrType.U8 })) none 1 [] none ∷ Return (some (variable 2)) ∷ [])
    ∷ (Return (some (literal (value u8 3))) ∷ [])
    ∷ [])

-- one variable is the context's, the return pointer's and the parameter's, and where there is one the slot's: the last one set is returned
abbrev pub shares : List Slot → Program
shares slots = of (record { item = Item.function; entry = 0; return_var = 2; context_var = 2; return_pointer = true; parameters = 2 ∷ []; slots = slots } ∷ []) (
    (Return (some (variable 2)) ∷ [])
    ∷ [])

-- a call with a place, of a function that returns none: what is in that place, which was 9
abbrev pub keeps : Program
keeps = of (plain 0 [] [] ∷ plain 1 [] [] ∷ []) (
    (Assign 2 (literal (value u8 9)) IrType.U8 ∷ Call (some (record { to = 2; type = IrType.U8 })) none 1 [] none ∷ Return (some (variable 2)) ∷ [])
    ∷ (Return none ∷ [])
    ∷ [])

-- a U32 is written, and the byte at an offset of it read
abbrev pub byte_of : (offset : ℕ) → Program
byte_of o = just (Initialize 3 4 [] ∷ Write (variable 3) (literal (value u32 0x04030201)) ∷ Offset 4 (variable 3) o ∷ Read 2 (variable 4) IrType.U8 ∷ Return (some (variable 2)) ∷ [])

-- a value is written, and read as its type
abbrev pub stores : Value → IrType → Program
stores v type = just (Initialize 3 8 [] ∷ Write (variable 3) (literal v) ∷ Read 2 (variable 3) type ∷ Return (some (variable 2)) ∷ [])

abbrev pub case : Program → List Value → ℕ → Outcome → ℕ → Case
case P gs budget outcome count = record { program = P; arguments = gs; budget = budget; outcome = outcome; count = count }

-- which of P1 to P10, and the case
abbrev pub paper : ℕ → Program → List Value → ℕ → Outcome → ℕ → Paper
paper n P gs budget outcome count = record { number = n; case = case P gs budget outcome count }

-- ---- P1 to P10

unfoldable pub papers : List Paper
papers =
    paper 1 p1 (value u8 41 ∷ []) 2 (returned (some (value u8 42))) 2
    ∷ paper 1 p1 (value u8 41 ∷ []) 1 paused 1
    ∷ paper 1 p1 (value u8 41 ∷ []) 0 paused 0
    ∷ paper 1 p1 (value u8 255 ∷ []) 2 (stopped outside_width) 0
    ∷ paper 2 (gives (Negate 2 (literal (value i8 129)))) [] 9 (returned (some (value i8 127))) 2
    ∷ paper 2 (gives (Negate 2 (literal (value i8 128)))) [] 9 (stopped outside_width) 0
    ∷ paper 3 (gives (Div 2 true (literal (value i8 249)) (literal (value i8 2)))) [] 9 (returned (some (value i8 253))) 2
    ∷ paper 3 (gives (Mod 2 true (literal (value i8 249)) (literal (value i8 2)))) [] 9 (returned (some (value i8 255))) 2
    ∷ paper 3 (gives (Mod 2 true (literal (value i8 128)) (literal (value i8 255)))) [] 9 (stopped outside_width) 0
    ∷ paper 4 (p4 4) [] 9 (returned (some (value u32 0))) 4
    ∷ paper 4 (p4 2) [] 9 (stopped misaligned) 2
    ∷ paper 4 (p4 6) [] 9 (stopped beyond_length) 2
    ∷ paper 5 (p5 0) [] 9 (returned none) 4
    ∷ paper 5 (p5 8) [] 9 (stopped misaligned) 2
    ∷ paper 5 (p5 9) [] 9 (stopped beyond_length) 2
    ∷ paper 6 (gives (IntCmp' 2 Eq (literal (value u64 5)) (literal (value u64 5)))) [] 9 (stopped wrong_kinds) 0
    ∷ paper 7 p7 [] 9 (stopped not_bool) 1
    ∷ paper 8 p8 (value u8 1 ∷ value u8 2 ∷ []) 9 (returned (some (value u8 34))) 7
    ∷ paper 9 p9 [] 9 (returned (some (value u8 1))) 2
    ∷ paper 10 p10 [] 9 (stopped frame_gone) 3
    ∷ []

-- ---- the orders of checks, and what is easily got wrong

unfoldable pub cases : List Case
cases =
    -- variables stay after a Return, a missing argument leaves the old value, a spare one is not read
    case copies [] 9 (stopped misaligned) 2
    ∷ case writes [] 9 (stopped wrong_kinds) 0
    ∷ case (calls [] none 4) [] 9 (returned (some (value u8 5))) 6
    ∷ case (calls [] none 3) [] 9 (returned (some (value u8 1))) 6
    ∷ case (calls (literal (value u8 7) ∷ variable 9 ∷ []) none 3) [] 9 (returned (some (value u8 7))) 6
    ∷ case (calls [] (some (variable 4)) 4) [] 9 (stopped no_return_place) 4
    ∷ case (gives (Initialize 2 1 (0 ∷ 0 ∷ []))) [] 9 (stopped bytes_exceed_size) 0
    ∷ case (just (Initialize 3 2 [] ∷ Write (variable 3) (literal (value u32 0)) ∷ [])) [] 9 (stopped beyond_length) 1
    -- Write takes no other value of 8 bytes; Copy tests its first operand before the second is read; Drop evaluates nothing, and Assign ignores the declared kind
    ∷ case (just (Write (literal (value u64 0)) (literal (value u8 0)) ∷ [])) [] 9 (stopped wrong_kinds) 0
    ∷ case (just (Copy (literal (value u8 0)) (variable 2) 0 ∷ [])) [] 9 (stopped wrong_kinds) 0
    ∷ case (just (Drop (variable 2) ∷ Return none ∷ [])) [] 9 (returned none) 2
    ∷ case (gives (Assign 2 (literal (value u8 7)) IrType.U64)) [] 9 (returned (some (value u8 7))) 2
    -- an operation's operands in their order: 5 - 3, U8 3 < U32 5, 1.0 < 2.0, 1.0 / 2.0; Not gives its Bool
    ∷ case (gives (Sub 2 (literal (value u8 5)) (literal (value u8 3)))) [] 9 (returned (some (value u8 2))) 2
    ∷ case (gives (IntCmp' 2 ULt (literal (value u8 3)) (literal (value u32 5)))) [] 9 (returned (some (value bool 1))) 2
    ∷ case (gives (FloatCmp' 2 FLt (literal (value f32 0x3f800000)) (literal (value f32 0x40000000)))) [] 9 (returned (some (value bool 1))) 2
    ∷ case (gives (FDiv 2 (literal (value f32 0x3f800000)) (literal (value f32 0x40000000)))) [] 9 (returned (some (value f32 0x3f000000))) 2
    ∷ case (gives (Not 2 (literal (value bool 1)))) [] 9 (returned (some (value bool 1))) 2
    ∷ case jumps [] 9 (returned (some (value u8 2))) 3
    ∷ case pointers [] 9 (returned (some (value bool 0))) 3
    ∷ case constants [] 9 (returned (some (value u8 2))) 3
    -- "Operands left to right, 21 each as read", and 22 after both: a Bool and a variable that is unset
    ∷ case (gives (Mod 2 true (literal (value bool 1)) (variable 9))) [] 9 (stopped never_set) 0
    ∷ case (gives (FloatCmp' 2 FLt (literal (value bool 1)) (variable 9))) [] 9 (stopped never_set) 0
    -- "the next place is the entry label's"; "sets the context, takes the first argument as return pointer where flagged, sets parameters in order, then makes slots"
    ∷ case enters [] 9 (returned (some (value u8 3))) 3
    ∷ case (shares []) (value u8 1 ∷ value u8 2 ∷ []) 9 (returned (some (value u8 2))) 1
    ∷ case (shares (record { var = 2; size = 1 } ∷ [])) (value u8 1 ∷ value u8 2 ∷ []) 9 (returned (some (value pointer 0))) 1
    -- "With none returned the call's variable keeps its value."
    ∷ case keeps [] 9 (returned (some (value u8 9))) 4
    -- an Offset of more than 16 bits
    ∷ case (p4 65536) [] 9 (stopped beyond_length) 2
    -- "Values are stored low byte first"; a NaN keeps its bits, and its sign flips; an F32's infinity lies above the largest F64
    ∷ case (byte_of 0) [] 9 (returned (some (value u8 1))) 5
    ∷ case (byte_of 1) [] 9 (returned (some (value u8 2))) 5
    ∷ case (byte_of 2) [] 9 (returned (some (value u8 3))) 5
    ∷ case (byte_of 3) [] 9 (returned (some (value u8 4))) 5
    ∷ case (just (Initialize 3 4 (1 ∷ 2 ∷ []) ∷ Read 2 (variable 3) IrType.U32 ∷ Return (some (variable 2)) ∷ [])) [] 9 (returned (some (value u32 0x0201))) 3
    ∷ case (stores (value f64 0x7ff0000000000001) IrType.F64) [] 9 (returned (some (value f64 0x7ff0000000000001))) 4
    ∷ case (gives (Negate 2 (literal (value f32 0x7f800001)))) [] 9 (returned (some (value f32 0xff800001))) 2
    ∷ case (gives (FloatCmp' 2 FGt (literal (value f32 0x7f800000)) (literal (value f64 0x7fefffffffffffff)))) [] 9 (returned (some (value bool 1))) 2
    ∷ case (just []) [] 0 paused 0
    ∷ case (just []) [] 1 (stopped no_instruction) 0
    ∷ []
