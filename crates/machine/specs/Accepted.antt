-- What the entries may take for granted of a program because its image was accepted: each operand names a variable below the count or is a value,
-- a Call's `to` is below it too, raw bytes are bytes, there are at most 256 variables, and at most 4,096 instructions over all.
use Rattle.std.specs.Prelude.{ℕ, Bool, true, ◌&&◌, ◌||◌, ◌∷◌, length, ltb, leb}
use Rattle.std.proofs.Math.Option.{Option, none, some}
use Rattle.value.specs.Value.{Value, value, char, same}
use Rattle.value.specs.Tags.{holds}
use Rattle.image.specs.Program.{Program, Operand, variable, literal, Declared, code, Instruction, Jump, Switch, Assign, ConstantAddress, Call, Return, IntCmp', FloatCmp', Add, Sub, Mul, Div, Mod, FDiv, Not, Negate, Offset, Initialize, Write, Read, Copy, Drop}
use Rattle.machine.specs.Machine.{as_variable}
use Rattle.machine.specs.Sound.{all, are_bytes}
use Rattle.machine.specs.Asks.{Ask, to_allocate, to_write, to_read, to_start, to_step, to_run, to_list}

unfoldable pub good_operand : (count : ℕ) → Operand → Bool
good_operand n (variable x) = ltb x n
good_operand n (literal v) = holds v.kind v.bits

unfoldable pub good_optional : (count : ℕ) → Option Operand → Bool
good_optional n none = true
good_optional n (some o) = good_operand n o

unfoldable pub good_to : (count : ℕ) → Option Declared → Bool
good_to n none = true
good_to n (some d) = ltb d.to n

abbrev pub both : (count : ℕ) → Operand → Operand → Bool
both n x y = good_operand n x && good_operand n y

unfoldable pub good_instruction : (count : ℕ) → Instruction → Bool
good_instruction n (Jump label) = true
good_instruction n (Switch x branches default) = good_operand n x
good_instruction n (Assign to x type) = good_operand n x
good_instruction n (ConstantAddress to k) = true
good_instruction n (Call to context f arguments return_pointer) =
    good_to n to && (good_optional n (as_variable return_pointer) && (good_optional n context && all (good_operand n) arguments))
good_instruction n (Return x) = good_optional n x
good_instruction n (IntCmp' to cmp x y) = both n x y
good_instruction n (FloatCmp' to cmp x y) = both n x y
good_instruction n (Add to x y) = both n x y
good_instruction n (Sub to x y) = both n x y
good_instruction n (Mul to x y) = both n x y
good_instruction n (Div to signed x y) = both n x y
good_instruction n (Mod to signed x y) = both n x y
good_instruction n (FDiv to x y) = both n x y
good_instruction n (Not to x) = good_operand n x
good_instruction n (Negate to x) = good_operand n x
good_instruction n (Offset to x d) = good_operand n x
good_instruction n (Initialize to size bytes) = are_bytes bytes
good_instruction n (Write x y) = both n x y
good_instruction n (Read to x type) = good_operand n x
good_instruction n (Copy x y size) = both n x y
good_instruction n (Drop x) = good_operand n x

unfoldable pub accepted : Program → Bool
accepted P = leb P.variables 256 && (leb (length (code P)) 4096 && (all are_bytes P.constants && all (good_instruction P.variables) (code P)))

-- a value as an entry takes it: only a Char may be wrong, and then it is 15
unfoldable pub given : Value → Bool
given v = same v.kind char || holds v.kind v.bits

-- "15 a Char that is no scalar value"
abbrev pub bad_char : Value
bad_char = value char 0xd800

-- an accepted program where one is run, values and bytes
unfoldable pub accepted_ask : Ask → Bool
accepted_ask (to_allocate n) = true
accepted_ask (to_write p bs) = are_bytes bs
accepted_ask (to_read P p n) = true
accepted_ask (to_start P f context gs) = accepted P && all given (context ∷ gs)
accepted_ask (to_step P) = accepted P
accepted_ask (to_run P budget) = accepted P
accepted_ask (to_list room) = true
