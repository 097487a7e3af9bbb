-- The values: a kind and its bits, as an unsigned number. What the instructions that only compute do with them.
use Rattle.std.specs.Prelude.{ℕ, zero, suc, ◌+◌, ◌-◌, ◌*◌, ◌/◌, ◌%◌, ◌^◌, Bool, true, false, not, ◌&&◌, ◌||◌, List, [], ◌∷◌, ltb, leb, eqb, ℤ, pos, negsuc, neg_ℤ, nat_abs, ◌+ℤ◌, ◌-ℤ◌, ◌*ℤ◌}
use Rattle.std.specs.Int.Signed.{quot_z, rem_z}
use Rattle.std.specs.Float.{Format, binary32, binary64}
use Rattle.std.specs.Float.Ieee.{hid, ones, top, low}
use Rattle.value.specs.Answer.{Answer, ok, refused, need, pick, ◌>>=◌}
use Rattle.value.specs.Divide.{count, divide_bits}
use Rattle.value.specs.Refusal.{wrong_kinds, outside_width, zero_divisor, not_bool}

-- ---- kinds and types

-- in the order of their tags, 1 to 14
pub data Kind : Type 0 where
  bool u8 u16 u32 u64 i8 i16 i32 i64 f32 f64 char asn pointer : Kind

-- a type is a kind other than Char and Asn
pub data IrType : Type 0 where
  Boolean U8 U16 U32 U64 I8 I16 I32 I64 F32 F64 Pointer : IrType

unfoldable pub kind_of : IrType → Kind
kind_of Boolean = bool
kind_of U8 = u8
kind_of U16 = u16
kind_of U32 = u32
kind_of U64 = u64
kind_of I8 = i8
kind_of I16 = i16
kind_of I32 = i32
kind_of I64 = i64
kind_of F32 = f32
kind_of F64 = f64
kind_of Pointer = pointer

unfoldable pub tag : Kind → ℕ
tag bool = 1
tag u8 = 2
tag u16 = 3
tag u32 = 4
tag u64 = 5
tag i8 = 6
tag i16 = 7
tag i32 = 8
tag i64 = 9
tag f32 = 10
tag f64 = 11
tag char = 12
tag asn = 13
tag pointer = 14

abbrev pub same : Kind → Kind → Bool
same k l = eqb (tag k) (tag l)

-- "Char and Asn take 4 bytes, Pointer 8."
unfoldable pub size : Kind → ℕ
size bool = 1
size u8 = 1
size u16 = 2
size u32 = 4
size u64 = 8
size i8 = 1
size i16 = 2
size i32 = 4
size i64 = 8
size f32 = 4
size f64 = 8
size char = 4
size asn = 4
size pointer = 8

abbrev pub width : Kind → ℕ
width k = 8 * size k

pub data Family : Type 0 where
  unsigned signed floating neither : Family

unfoldable pub family : Kind → Family
family bool = neither
family u8 = unsigned
family u16 = unsigned
family u32 = unsigned
family u64 = unsigned
family i8 = signed
family i16 = signed
family i32 = signed
family i64 = signed
family f32 = floating
family f64 = floating
family char = neither
family asn = neither
family pointer = neither

abbrev pub is_unsigned : Family → Bool
is_unsigned unsigned = true
is_unsigned signed = false
is_unsigned floating = false
is_unsigned neither = false

abbrev pub is_signed : Family → Bool
is_signed unsigned = false
is_signed signed = true
is_signed floating = false
is_signed neither = false

abbrev pub is_float : Family → Bool
is_float unsigned = false
is_float signed = false
is_float floating = true
is_float neither = false

-- any bits may stand here; which are a value's, `holds` says (Tags)
pub record Value : Type 0 where
  pub kind : Kind
  pub bits : ℕ

abbrev pub value : Kind → ℕ → Value
value k b = record { kind = k; bits = b }

-- "Char is 0..D7FF or E000..10FFFF hex."
unfoldable pub is_scalar : ℕ → Bool
is_scalar b = leb b 0xd7ff || (leb 0xe000 b && leb b 0x10ffff)

-- a Char that is no scalar value
unfoldable pub is_bad_char : Value → Bool
is_bad_char v = same v.kind char && not (is_scalar v.bits)

abbrev pub truth : Bool → Value
truth true = value bool 1
truth false = value bool 0

-- ---- integers

-- the number that an integer's bits stand for: two's complement where the kind is signed
unfoldable pub integer : Value → ℤ
integer v = pick (is_signed (family v.kind) && leb (2 ^ (width v.kind - 1)) v.bits) (pos v.bits -ℤ pos (2 ^ width v.kind)) (pos v.bits)

-- the bits that stand for a number
unfoldable pub bits_of : Kind → ℤ → ℕ
bits_of k (pos n) = n
bits_of k (negsuc n) = 2 ^ width k - suc n

-- a kind holds 0 to 2 ^ width - 1, or -2 ^ (width - 1) to 2 ^ (width - 1) - 1
abbrev pub within : Family → ℕ → ℤ → Bool
within signed w (pos n) = ltb n (2 ^ (w - 1))
within signed w (negsuc n) = ltb n (2 ^ (w - 1))
within unsigned w (pos n) = ltb n (2 ^ w)
within unsigned w (negsuc n) = false
within floating w z = false
within neither w z = false

-- "23 integer result outside its width"
unfoldable pub checked : Kind → ℤ → Answer Value
checked k z = need (within (family k) (width k) z) outside_width (ok (value k (bits_of k z)))

pub data Operation : Type 0 where
  add sub mul div mod' : Operation

abbrev pub is_zero : ℤ → Bool
is_zero z = eqb (nat_abs z) 0

-- "Division cuts toward zero, the remainder has the dividend's sign; MIN / -1 and MIN % -1 are 23."
unfoldable pub operate : Operation → Kind → ℤ → ℤ → Answer Value
operate add k a b = checked k (a +ℤ b)
operate sub k a b = checked k (a -ℤ b)
operate mul k a b = checked k (a *ℤ b)
operate div k a b = need (not (is_zero b)) zero_divisor (checked k (quot_z a b))
operate mod' k a b = need (not (is_zero b)) zero_divisor (checked k (quot_z a b) >>= λ q. checked k (rem_z a b))

-- "Add, Sub, Mul, Div, Mod: same integer kind both sides, else 22; then 24; then 23."
unfoldable pub arithmetic : Operation → Value → Value → Answer Value
arithmetic op x y =
    need (same x.kind y.kind && (is_unsigned (family x.kind) || is_signed (family x.kind))) wrong_kinds
    (operate op x.kind (integer x) (integer y))

-- ---- floats, by their bits

-- a float's format; only an F32's and an F64's are asked for
abbrev pub format_of : Kind → Format
format_of k = pick (same k f32) binary32 binary64

-- "FDiv: two F32 or two F64, rounded once to nearest, ties to even .. ; a NaN result is 7FC00000 or 7FF8000000000000 hex"
unfoldable pub divide_floats : Value → Value → Answer Value
divide_floats x y =
    need (same x.kind y.kind && is_float (family x.kind)) wrong_kinds
    (ok (value x.kind (divide_bits (format_of x.kind) x.bits y.bits)))

-- bits of this width with the top one flipped
abbrev pub flip : (width bits : ℕ) → ℕ
flip w b = (b + 2 ^ (w - 1)) % 2 ^ w

-- "Negate: signed integers and floats; a float's sign bit flips."
abbrev pub negate_as : Family → Value → Answer Value
negate_as signed v = checked v.kind (neg_ℤ (integer v))
negate_as floating v = ok (value v.kind (flip (width v.kind) v.bits))
negate_as unsigned v = refused wrong_kinds
negate_as neither v = refused wrong_kinds

unfoldable pub negated : Value → Answer Value
negated v = negate_as (family v.kind) v

-- "Not: its Bool, unchanged, as in the Rust"
unfoldable pub notted : Value → Answer Value
notted v = need (same v.kind bool) wrong_kinds (ok v)

-- What a float's bits stand for. A finite number is a whole number of 2 ^ -1074, the smallest F64: so an F32 is widened exactly.
pub data Real : Type 0 where
  nan : Real
  infinite : (negative : Bool) → Real
  finite : ℤ → Real

-- the number of this size, below 0 where the flag says so
abbrev pub sign_of : Bool → ℕ → ℤ
sign_of true n = neg_ℤ (pos n)
sign_of false n = pos n

abbrev pub fields : Format → (negative : Bool) (exponent digits : ℕ) → Real
fields f s x t =
    pick (eqb x (ones f)) (pick (eqb t 0) (infinite s) nan)
    (finite (sign_of s (count f x t * 2 ^ (1074 - low f))))

unfoldable pub real : Value → Real
real v = let f = format_of v.kind in fields f (leb (top f) v.bits) (v.bits % top f / hid f) (v.bits % hid f)

-- ---- comparisons

-- what one number is to another
pub data Order : Type 0 where
  less equal greater unordered : Order

unfoldable pub naturals : ℕ → ℕ → Order
naturals a b = pick (ltb a b) less (pick (eqb a b) equal greater)

unfoldable pub integers : ℤ → ℤ → Order
integers (pos a) (pos b) = naturals a b
integers (pos a) (negsuc b) = greater
integers (negsuc a) (pos b) = less
integers (negsuc a) (negsuc b) = naturals b a

-- "NaN is unequal to itself", and no order holds of it; the two zeros are equal
unfoldable pub reals : Real → Real → Order
reals nan y = unordered
reals (infinite s) nan = unordered
reals (infinite true) (infinite true) = equal
reals (infinite true) (infinite false) = less
reals (infinite false) (infinite true) = greater
reals (infinite false) (infinite false) = equal
reals (infinite true) (finite b) = less
reals (infinite false) (finite b) = greater
reals (finite a) nan = unordered
reals (finite a) (infinite true) = greater
reals (finite a) (infinite false) = less
reals (finite a) (finite b) = integers a b

pub data Test : Type 0 where
  eq ne lt le gt ge : Test

unfoldable pub passes : Test → Order → Bool
passes eq less = false
passes eq equal = true
passes eq greater = false
passes eq unordered = false
passes ne less = true
passes ne equal = false
passes ne greater = true
passes ne unordered = true
passes lt less = true
passes lt equal = false
passes lt greater = false
passes lt unordered = false
passes le less = true
passes le equal = true
passes le greater = false
passes le unordered = false
passes gt less = false
passes gt equal = false
passes gt greater = true
passes gt unordered = false
passes ge less = false
passes ge equal = true
passes ge greater = true
passes ge unordered = false

-- "Eq and Ne of both comparisons: same kind, one of Bool, U8, U16, U32, I8, I16, I32, F32, F64, Asn, Pointer; else 22."
unfoldable pub has_equality : Kind → Bool
has_equality bool = true
has_equality u8 = true
has_equality u16 = true
has_equality u32 = true
has_equality u64 = false
has_equality i8 = true
has_equality i16 = true
has_equality i32 = true
has_equality i64 = false
has_equality f32 = true
has_equality f64 = true
has_equality char = false
has_equality asn = true
has_equality pointer = true

-- "Pointers compare by number; NaN is unequal to itself."
unfoldable pub equality : Test → Value → Value → Answer Value
equality t x y =
    need (same x.kind y.kind && has_equality x.kind) wrong_kinds
    (ok (truth (passes t (pick (is_float (family x.kind)) (reals (real x) (real y)) (naturals x.bits y.bits)))))

-- "Ordered unsigned, signed and float comparisons take any widths of their family, floats widened exactly."
unfoldable pub unsigned_order : Test → Value → Value → Answer Value
unsigned_order t x y = need (is_unsigned (family x.kind) && is_unsigned (family y.kind)) wrong_kinds (ok (truth (passes t (naturals x.bits y.bits))))

unfoldable pub signed_order : Test → Value → Value → Answer Value
signed_order t x y = need (is_signed (family x.kind) && is_signed (family y.kind)) wrong_kinds (ok (truth (passes t (integers (integer x) (integer y)))))

unfoldable pub float_order : Test → Value → Value → Answer Value
float_order t x y = need (is_float (family x.kind) && is_float (family y.kind)) wrong_kinds (ok (truth (passes t (reals (real x) (real y)))))

-- "comparison in source order (0..9, 0..5)"
pub data IntCmp : Type 0 where
  Eq Ne ULt ULe UGt UGe SLt SLe SGt SGe : IntCmp

unfoldable pub compare_ints : IntCmp → Value → Value → Answer Value
compare_ints Eq x y = equality eq x y
compare_ints Ne x y = equality ne x y
compare_ints ULt x y = unsigned_order lt x y
compare_ints ULe x y = unsigned_order le x y
compare_ints UGt x y = unsigned_order gt x y
compare_ints UGe x y = unsigned_order ge x y
compare_ints SLt x y = signed_order lt x y
compare_ints SLe x y = signed_order le x y
compare_ints SGt x y = signed_order gt x y
compare_ints SGe x y = signed_order ge x y

pub data FloatCmp : Type 0 where
  FEq FNe FLt FLe FGt FGe : FloatCmp

unfoldable pub compare_floats : FloatCmp → Value → Value → Answer Value
compare_floats FEq x y = equality eq x y
compare_floats FNe x y = equality ne x y
compare_floats FLt x y = float_order lt x y
compare_floats FLe x y = float_order le x y
compare_floats FGt x y = float_order gt x y
compare_floats FGe x y = float_order ge x y

-- ---- switches

abbrev pub switches : Kind → Bool
switches k = same k bool || (same k u8 || (same k u16 || same k u32))

-- "Switch takes Bool, U8, U16, U32"
unfoldable pub switch_on : Value → Answer ℕ
switch_on v = need (switches v.kind) wrong_kinds (ok v.bits)

-- ---- bytes

-- "Values are stored low byte first": the n lowest bytes of b, and back
unfoldable pub le_bytes : ℕ → ℕ → List ℕ
le_bytes zero b = []
le_bytes (suc n) b = b % 256 ∷ le_bytes n (b / 256)

unfoldable pub le_number : List ℕ → ℕ
le_number [] = 0
le_number (x ∷ xs) = x + 256 * le_number xs

unfoldable pub bytes_of : Value → List ℕ
bytes_of v = le_bytes (size v.kind) v.bits

-- "31 Bool read from a byte above 1"
unfoldable pub from_bytes : IrType → List ℕ → Answer Value
from_bytes t bs = need (not (same (kind_of t) bool && ltb 1 (le_number bs))) not_bool (ok (value (kind_of t) (le_number bs)))
