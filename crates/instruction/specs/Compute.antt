-- Values as tags and bits, and what the instructions that only compute make of them, by opcode.
use Rattle.std.specs.Prelude.{ℕ, eqb, Result, Ok, Err}
use Rattle.std.proofs.Math.Option.{Option, none, some}
use Rattle.value.specs.declared.refusal.Refusal.{Refusal}
use Rattle.value.specs.Refusal.{not_sound, no_instruction}
use Rattle.value.specs.Answer.{Answer, ok, refused, need, pick, ◌>>=◌}
use Rattle.value.specs.Value.{Value, value, Kind, tag, IntCmp, FloatCmp, compare_ints, compare_floats, add, sub, mul, div, mod', arithmetic, divide_floats, notted, negated}
use Rattle.value.specs.Tags.{kind_at, holds, int_cmp_at, float_cmp_at}
use Rattle.value.specs.Ir.{value_of}
use Rattle.value.specs.declared.IrValue.{IrValue}
use Rattle.instruction.specs.Variables.{found}
use Rattle.instruction.specs.declared.variables.Found.{Found}

-- bits of this kind
abbrev pub stored : Option Kind → (bits : ℕ) → Answer Value
stored none b = refused not_sound
stored (some k) b = need (holds k b) not_sound (ok (value k b))

-- what a tag and bits stand for, or the refusal in their place
unfoldable pub answer_of : Result Found Refusal → Answer Value
answer_of (Ok r) = stored (kind_at r.tag) r.bits
answer_of (Err n) = refused n

-- and back
abbrev pub found_of : Answer Value → Result Found Refusal
found_of (ok v) = Ok (found (tag v.kind) v.bits)
found_of (refused n) = Err n

abbrev pub found_as : Result IrValue Refusal → Result Found Refusal
found_as (Ok v) = Ok (found (tag (value_of v).kind) (value_of v).bits)
found_as (Err n) = Err n

unfoldable pub compared_ints : Option IntCmp → Value → Value → Answer Value
compared_ints none x y = refused no_instruction
compared_ints (some c) x y = compare_ints c x y

unfoldable pub compared_floats : Option FloatCmp → Value → Value → Answer Value
compared_floats none x y = refused no_instruction
compared_floats (some c) x y = compare_floats c x y

-- "6 IntCmp, 7 FloatCmp", "8 Add, 9 Sub, 10 Mul, 13 FDiv", "11 Div, 12 Mod"
unfoldable pub operated : (opcode how : ℕ) → Value → Value → Answer Value
operated n how x y =
    pick (eqb n 6) (compared_ints (int_cmp_at how) x y)
    (pick (eqb n 7) (compared_floats (float_cmp_at how) x y)
    (pick (eqb n 8) (arithmetic add x y)
    (pick (eqb n 9) (arithmetic sub x y)
    (pick (eqb n 10) (arithmetic mul x y)
    (pick (eqb n 11) (arithmetic div x y)
    (pick (eqb n 12) (arithmetic mod' x y)
    (pick (eqb n 13) (divide_floats x y) (refused no_instruction))))))))

-- "Operands left to right": the first's refusal comes first
unfoldable pub with_second : (opcode how : ℕ) → Value → Result Found Refusal → Answer Value
with_second n how v y = answer_of y >>= λ w. operated n how v w

unfoldable pub binary_of : (opcode how : ℕ) → (x y : Result Found Refusal) → Answer Value
binary_of n how x y = answer_of x >>= λ v. with_second n how v y

-- "14 Not, 15 Negate"
unfoldable pub altered : (opcode : ℕ) → Value → Answer Value
altered n v = pick (eqb n 14) (notted v) (pick (eqb n 15) (negated v) (refused no_instruction))

unfoldable pub unary_of : (opcode : ℕ) → Result Found Refusal → Answer Value
unary_of n x = answer_of x >>= λ v. altered n v
