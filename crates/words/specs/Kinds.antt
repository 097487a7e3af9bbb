-- "KIND is a name of `IrValue` .., BITS its bits as an unsigned number (I8 -1 is 255); bits that do not fit the kind cannot be read, except
-- that any Char below 2^32 is passed on".
use Rattle.std.specs.Prelude.{ℕ, suc, ◌^◌, Bool, Option, Some, None, List, [], ◌∷◌, map, get_or, drop, ltb}
use Rattle.value.specs.Answer.{pick}
use Rattle.value.specs.Value.{Kind, bool, u8, u16, u32, u64, i8, i16, i32, i64, f32, f64, char, asn, pointer, width}
use Rattle.value.specs.Bytes.{same_bytes}
use Rattle.value.specs.Value.{same as same_kind}
use Rattle.value.specs.Tags.{kinds}
use Rattle.words.specs.Ascii.{ascii}
use Rattle.words.specs.Number.{number}

-- ---- names

unfoldable pub name : Kind → List ℕ
name bool = ascii "Bool"
name u8 = ascii "U8"
name u16 = ascii "U16"
name u32 = ascii "U32"
name u64 = ascii "U64"
name i8 = ascii "I8"
name i16 = ascii "I16"
name i32 = ascii "I32"
name i64 = ascii "I64"
name f32 = ascii "F32"
name f64 = ascii "F64"
name char = ascii "Char"
name asn = ascii "Asn"
name pointer = ascii "Pointer"

-- each name at its kind's tag; 0 is no kind's
unfoldable pub names : List (List ℕ)
names = [] ∷ map name kinds

-- the name of the kind with this tag: no byte where there is no such kind
unfoldable pub name_of : ℕ → List ℕ
name_of t = get_or names t []

-- the tag of the first of these names that a word is
unfoldable pub kind_from : List ℕ → (tag : ℕ) → List (List ℕ) → Option ℕ
kind_from w t [] = None
kind_from w t (n ∷ ns) =
    let more = kind_from w (suc t) ns in
    pick (same_bytes w n) (Some t) more

unfoldable pub kind_read : List ℕ → Option ℕ
kind_read w = kind_from w 1 (drop 1 names)

-- ---- bits

-- the bits of a kind lie below this: 2 for a Bool, else 2 ^ width
unfoldable pub limit_of : Kind → ℕ
limit_of k = pick (same_kind k bool) 2 (2 ^ width k)

unfoldable pub limits : List ℕ
limits = 0 ∷ map limit_of kinds

-- whether bits fit the kind with this tag
unfoldable pub fits : (tag bits : ℕ) → Bool
fits t b = ltb b (get_or limits t 0)

abbrev pub fitting : ℕ → Option ℕ → Option ℕ
fitting t (Some b) = pick (fits t b) (Some b) None
fitting t None = None

-- the bits that a word says, for the kind with this tag
abbrev pub bits_read : ℕ → List ℕ → Option ℕ
bits_read t w = fitting t (number w)
