-- Tags and bits: which number names which kind, and which bits are a value's.
use Rattle.std.specs.Prelude.{ℕ, ◌^◌, Bool, false, List, [], ◌∷◌, ltb, eqb, get_or}
use Rattle.std.proofs.Math.Option.{Option, none, some}
use Rattle.value.specs.Answer.{pick}
use Rattle.value.specs.Value.{Kind, IrType, IntCmp, FloatCmp, tag, same, size, width, is_scalar, bool, u8, u16, u32, u64, i8, i16, i32, i64, f32, f64, char, asn, pointer}
use Rattle.value.specs.Value as Believed

-- the kind of the list that has this tag
unfoldable pub named : List Kind → ℕ → Option Kind
named [] n = none
named (k ∷ ks) n = pick (eqb n (tag k)) (some k) (named ks n)

-- "1 Bool, 2 U8, 3 U16, 4 U32, 5 U64, 6 I8, 7 I16, 8 I32, 9 I64, 10 F32, 11 F64, 12 Char, 13 Asn, 14 Pointer"
abbrev pub kinds : List Kind
kinds = bool ∷ u8 ∷ u16 ∷ u32 ∷ u64 ∷ i8 ∷ i16 ∷ i32 ∷ i64 ∷ f32 ∷ f64 ∷ char ∷ asn ∷ pointer ∷ []

unfoldable pub kind_at : ℕ → Option Kind
kind_at n = named kinds n

-- "A type is such a tag without 0, 12, 13."
unfoldable pub type_of_kind : Kind → Option IrType
type_of_kind bool = some Believed.Boolean
type_of_kind u8 = some Believed.U8
type_of_kind u16 = some Believed.U16
type_of_kind u32 = some Believed.U32
type_of_kind u64 = some Believed.U64
type_of_kind i8 = some Believed.I8
type_of_kind i16 = some Believed.I16
type_of_kind i32 = some Believed.I32
type_of_kind i64 = some Believed.I64
type_of_kind f32 = some Believed.F32
type_of_kind f64 = some Believed.F64
type_of_kind char = none
type_of_kind asn = none
type_of_kind pointer = some Believed.Pointer

-- the type with this tag
unfoldable pub typed : Option Kind → Option IrType
typed none = none
typed (some k) = type_of_kind k

abbrev pub type_at : ℕ → Option IrType
type_at n = typed (kind_at n)

-- the bits of a value lie below 2 ^ width; a Bool's are 0 or 1, and a Char's are a scalar value
unfoldable pub holds : Kind → ℕ → Bool
unfolding tag size
holds k b = pick (same k bool) (ltb b 2) (pick (same k char) (is_scalar b) (ltb b (2 ^ width k)))

-- "a value too large for its width or kind", or of no kind at all, is none
unfoldable pub held : Option Kind → ℕ → Bool
held none b = false
held (some k) b = holds k b

-- "comparison in source order (0..9, 0..5)"
abbrev pub int_cmps : List (Option IntCmp)
int_cmps = some IntCmp.Eq ∷ some IntCmp.Ne ∷ some IntCmp.ULt ∷ some IntCmp.ULe ∷ some IntCmp.UGt ∷ some IntCmp.UGe ∷ some IntCmp.SLt ∷ some IntCmp.SLe ∷ some IntCmp.SGt ∷ some IntCmp.SGe ∷ []

abbrev pub float_cmps : List (Option FloatCmp)
float_cmps = some FloatCmp.FEq ∷ some FloatCmp.FNe ∷ some FloatCmp.FLt ∷ some FloatCmp.FLe ∷ some FloatCmp.FGt ∷ some FloatCmp.FGe ∷ []

unfoldable pub int_cmp_at : ℕ → Option IntCmp
int_cmp_at n = get_or int_cmps n none

unfoldable pub float_cmp_at : ℕ → Option FloatCmp
float_cmp_at n = get_or float_cmps n none

-- and back: the number that names a comparison
abbrev pub int_cmp_number : IntCmp → ℕ
int_cmp_number IntCmp.Eq = 0
int_cmp_number IntCmp.Ne = 1
int_cmp_number IntCmp.ULt = 2
int_cmp_number IntCmp.ULe = 3
int_cmp_number IntCmp.UGt = 4
int_cmp_number IntCmp.UGe = 5
int_cmp_number IntCmp.SLt = 6
int_cmp_number IntCmp.SLe = 7
int_cmp_number IntCmp.SGt = 8
int_cmp_number IntCmp.SGe = 9

abbrev pub float_cmp_number : FloatCmp → ℕ
float_cmp_number FloatCmp.FEq = 0
float_cmp_number FloatCmp.FNe = 1
float_cmp_number FloatCmp.FLt = 2
float_cmp_number FloatCmp.FLe = 3
float_cmp_number FloatCmp.FGt = 4
float_cmp_number FloatCmp.FGe = 5
