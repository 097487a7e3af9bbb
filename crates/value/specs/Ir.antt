-- The code's own values, types and answers, as the values, kinds and answers that the definitions speak of.
use Rattle.std.specs.Prelude.{ℕ, ◌^◌, ◌&&◌, List, ◌++◌, length, take, drop, eqb, ltb, leb, Result, Ok, Err, Some, None}
use Rattle.std.specs.Prelude as Code
use Rattle.std.proofs.Math.Bool as B
use Rattle.std.proofs.Math.Option.{Option, none, some}
use Rattle.std.specs.Float.{binary32, binary64}
use Rattle.std.specs.Float.Ieee.{fits, is_nan, nan_bits}
use Rattle.value.specs.Answer.{Answer, ok, refused, pick}
use Rattle.value.specs.Floats.{bits32, bits64, single, double}
use Rattle.value.specs.Tags.{holds}
use Rattle.value.specs.Value.{Kind, Value, value, kind_of, size, from_bytes, integer, bits_of, within, signed, bool, u8, u16, u32, u64, i8, i16, i32, i64, f32, f64, char, asn, pointer}
use Rattle.value.specs.declared.IrValue.{IrValue}
use Rattle.value.specs.declared.IrValue.TheVariants.{Bool, U8, U16, U32, U64, I8, I16, I32, I64, F32, F64, Char, Asn, Pointer}
use Rattle.value.specs.Value as Believed
use Rattle.value.specs.declared.IrType as T
use Rattle.value.specs.declared.Single as S
use Rattle.value.specs.declared.Double as D
use Rattle.value.specs.declared.refusal.Refusal.{Refusal}

-- a value's kind and bits: two's complement where the kind is signed, the pattern where it is a float
unfoldable pub value_of : IrValue → Value
value_of (Bool b) = value bool (pick b 1 0)
value_of (U8 n) = value u8 n
value_of (U16 n) = value u16 n
value_of (U32 n) = value u32 n
value_of (U64 n) = value u64 n
value_of (I8 z) = value i8 (bits_of i8 z)
value_of (I16 z) = value i16 (bits_of i16 z)
value_of (I32 z) = value i32 (bits_of i32 z)
value_of (I64 z) = value i64 (bits_of i64 z)
value_of (F32 x) = value f32 (bits32 x)
value_of (F64 x) = value f64 (bits64 x)
value_of (Char n) = value char n
value_of (Asn n) = value asn n
value_of (Pointer n) = value pointer n

-- the value of a kind and bits: a NaN's pattern is kept as it is
unfoldable pub ir_of : Kind → ℕ → IrValue
ir_of bool b = Bool (B.not (eqb b 0))
ir_of u8 b = U8 b
ir_of u16 b = U16 b
ir_of u32 b = U32 b
ir_of u64 b = U64 b
ir_of i8 b = I8 (integer (value i8 b))
ir_of i16 b = I16 (integer (value i16 b))
ir_of i32 b = I32 (integer (value i32 b))
ir_of i64 b = I64 (integer (value i64 b))
ir_of f32 b = F32 (single b)
ir_of f64 b = F64 (double b)
ir_of char b = Char b
ir_of asn b = Asn b
ir_of pointer b = Pointer b

abbrev pub ir_value : Value → IrValue
ir_value v = ir_of v.kind v.bits

-- the value of a tag's kind and bits, where there is one
unfoldable pub made : Option Kind → ℕ → Code.Option IrValue
made none b = None
made (some k) b = pick (holds k b) (Some (ir_of k b)) None

-- A value that is some kind's and bits'. The enum holds more: a `Number` that is a NaN, a `Nan` with a number's bits, a Char that is no scalar value.
abbrev pub own_single : S.Single → B.Bool
own_single (S.TheVariants.Number x) = fits binary32 x && B.not (is_nan x)
own_single (S.TheVariants.Nan b) = nan_bits binary32 b && ltb b (2 ^ 32)

abbrev pub own_double : D.Double → B.Bool
own_double (D.TheVariants.Number x) = fits binary64 x && B.not (is_nan x)
own_double (D.TheVariants.Nan b) = nan_bits binary64 b && ltb b (2 ^ 64)

unfoldable pub own : IrValue → B.Bool
own (Bool b) = B.true
own (U8 n) = holds u8 n
own (U16 n) = holds u16 n
own (U32 n) = holds u32 n
own (U64 n) = holds u64 n
own (I8 z) = within signed 8 z
own (I16 z) = within signed 16 z
own (I32 z) = within signed 32 z
own (I64 z) = within signed 64 z
own (F32 x) = own_single x
own (F64 x) = own_double x
own (Char n) = holds char n
own (Asn n) = holds asn n
own (Pointer n) = holds pointer n

-- the code's types, and the definitions'
unfoldable pub type_of : T.IrType → Believed.IrType
type_of T.TheVariants.Bool = Believed.Boolean
type_of T.TheVariants.U8 = Believed.U8
type_of T.TheVariants.U16 = Believed.U16
type_of T.TheVariants.U32 = Believed.U32
type_of T.TheVariants.U64 = Believed.U64
type_of T.TheVariants.I8 = Believed.I8
type_of T.TheVariants.I16 = Believed.I16
type_of T.TheVariants.I32 = Believed.I32
type_of T.TheVariants.I64 = Believed.I64
type_of T.TheVariants.F32 = Believed.F32
type_of T.TheVariants.F64 = Believed.F64
type_of T.TheVariants.Pointer = Believed.Pointer

unfoldable pub ir_type : Believed.IrType → T.IrType
ir_type Believed.Boolean = T.TheVariants.Bool
ir_type Believed.U8 = T.TheVariants.U8
ir_type Believed.U16 = T.TheVariants.U16
ir_type Believed.U32 = T.TheVariants.U32
ir_type Believed.U64 = T.TheVariants.U64
ir_type Believed.I8 = T.TheVariants.I8
ir_type Believed.I16 = T.TheVariants.I16
ir_type Believed.I32 = T.TheVariants.I32
ir_type Believed.I64 = T.TheVariants.I64
ir_type Believed.F32 = T.TheVariants.F32
ir_type Believed.F64 = T.TheVariants.F64
ir_type Believed.Pointer = T.TheVariants.Pointer

-- the type that a tag names, or none
unfoldable pub tagged : Option Believed.IrType → Code.Option T.IrType
tagged none = None
tagged (some t) = Some (ir_type t)

-- what an operation answers: its value, or the refusal
unfoldable pub computed : Answer Value → Result IrValue Refusal
computed (ok v) = Ok (ir_value v)
computed (refused n) = Err n

-- ---- bytes

-- these bytes go to the front of others; where they are too few, none does
abbrev pub written : List ℕ → List ℕ → List ℕ
written bs to = pick (leb (length bs) (length to)) (bs ++ drop (length bs) to) to

-- the value of a type at the front of these bytes, where they are enough
unfoldable pub loaded : Believed.IrType → List ℕ → Code.Option (Result IrValue Refusal)
loaded t bs = let n = size (kind_of t) in pick (leb n (length bs)) (Some (computed (from_bytes t (take n bs)))) None
