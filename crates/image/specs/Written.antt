-- A program written: its fields in the document's order, each a number or raw bytes. They are said of the program alone: nothing of an image is known here.
use Rattle.std.specs.Prelude.{ℕ, Bool, true, false, List, [], ◌∷◌, ◌++◌, length}
use Rattle.std.proofs.Math.Option.{Option, none, some}
use Rattle.value.specs.Value.{IrType, kind_of, tag}
use Rattle.value.specs.Tags.{int_cmp_number, float_cmp_number}
use Rattle.image.specs.Number.{bytes_of}
use Rattle.image.specs.Program.{Program, Operand, variable, literal, Slot, Branch, Declared, Item, Function, Instruction, Jump, Switch, Assign, ConstantAddress, Call, Return, IntCmp', FloatCmp', Add, Sub, Mul, Div, Mod, FDiv, Not, Negate, Offset, Initialize, Write, Read, Copy, Drop}

-- one field of an image
pub data Piece : Type 0 where
  num : ℕ → Piece
  raw : List ℕ → Piece

-- a number as groups of seven bits, and raw bytes as they are
abbrev pub piece_bytes : Piece → List ℕ
piece_bytes (num v) = bytes_of v
piece_bytes (raw bs) = bs

-- the bytes of the pieces, one after another
abbrev pub spelt : List Piece → List ℕ
spelt [] = []
spelt (p ∷ ps) = piece_bytes p ++ spelt ps

-- ---- the numbers that stand for things

-- a flag is 0 or 1
abbrev pub flag_number : Bool → ℕ
flag_number false = 0
flag_number true = 1

-- "kind (0 function, 1 constant item)"
abbrev pub item_number : Item → ℕ
item_number Item.function = 0
item_number Item.constant_item = 1

-- a type is its kind's tag
abbrev pub type_number : IrType → ℕ
type_number t = tag (kind_of t)

-- ---- the parts

-- items one after another
abbrev pub each : {A : Type 0} → (A → List Piece) → List A → List Piece
each f [] = []
each f (x ∷ xs) = f x ++ each f xs

-- a count, and as many items
abbrev pub counted : {A : Type 0} → (A → List Piece) → List A → List Piece
counted f xs = num (length xs) ∷ each f xs

-- "An optional field is 0, or 1 and the field."
abbrev pub maybe : {A : Type 0} → (A → List Piece) → Option A → List Piece
maybe f none = num 0 ∷ []
maybe f (some a) = num 1 ∷ f a

abbrev pub number : ℕ → List Piece
number v = num v ∷ []

-- a length, and as many raw bytes
abbrev pub length_and : List ℕ → List Piece
length_and bs = num (length bs) ∷ raw bs ∷ []

-- "Operand: tag 0 and a variable, or a value's tag and its bits as an unsigned number"
abbrev pub operand : Operand → List Piece
operand (variable v) = num 0 ∷ num v ∷ []
operand (literal v) = num (tag v.kind) ∷ num v.bits ∷ []

-- "pairs of variable and size"
abbrev pub slot : Slot → List Piece
slot x = num x.var ∷ num x.size ∷ []

-- "pairs of number and label"
abbrev pub branch : Branch → List Piece
branch b = num b.number ∷ num b.label ∷ []

-- "(to, type)"
abbrev pub declared : Declared → List Piece
declared d = num d.to ∷ num (type_number d.type) ∷ []

-- "One table gives each opcode's fields, opcodes 0 to 21."
unfoldable pub instruction : Instruction → List Piece
instruction (Jump l) = num 0 ∷ num l ∷ []
instruction (Switch o bs l) = num 1 ∷ operand o ++ counted branch bs ++ number l
instruction (Assign to o t) = num 2 ∷ num to ∷ operand o ++ number (type_number t)
instruction (ConstantAddress to k) = num 3 ∷ num to ∷ num k ∷ []
instruction (Call to context f args pointer) = num 4 ∷ maybe declared to ++ maybe operand context ++ number f ++ counted operand args ++ maybe number pointer
instruction (Return o) = num 5 ∷ maybe operand o
instruction (IntCmp' to c a b) = num 6 ∷ num to ∷ num (int_cmp_number c) ∷ operand a ++ operand b
instruction (FloatCmp' to c a b) = num 7 ∷ num to ∷ num (float_cmp_number c) ∷ operand a ++ operand b
instruction (Add to a b) = num 8 ∷ num to ∷ operand a ++ operand b
instruction (Sub to a b) = num 9 ∷ num to ∷ operand a ++ operand b
instruction (Mul to a b) = num 10 ∷ num to ∷ operand a ++ operand b
instruction (Div to signed a b) = num 11 ∷ num to ∷ num (flag_number signed) ∷ operand a ++ operand b
instruction (Mod to signed a b) = num 12 ∷ num to ∷ num (flag_number signed) ∷ operand a ++ operand b
instruction (FDiv to a b) = num 13 ∷ num to ∷ operand a ++ operand b
instruction (Not to a) = num 14 ∷ num to ∷ operand a
instruction (Negate to a) = num 15 ∷ num to ∷ operand a
instruction (Offset to a by) = num 16 ∷ num to ∷ operand a ++ number by
instruction (Initialize to size bs) = num 17 ∷ num to ∷ num size ∷ length_and bs
instruction (Write to what) = num 18 ∷ operand to ++ operand what
instruction (Read to a t) = num 19 ∷ num to ∷ operand a ++ number (type_number t)
instruction (Copy to from size) = num 20 ∷ operand to ++ operand from ++ number size
instruction (Drop a) = num 21 ∷ operand a

-- "Function: kind .., entry label, return variable, context variable, return-pointer flag, parameter count .. and variables, slot count .. and pairs .."
unfoldable pub function : Function → List Piece
function f =
    num (item_number f.item) ∷ num f.entry ∷ num f.return_var ∷ num f.context_var ∷ num (flag_number f.return_pointer)
    ∷ counted number f.parameters ++ counted slot f.slots

-- "Header: version 1, then counts of variables .., constants .., functions .., blocks ..", then "Constant: length, raw bytes ..", the functions, and
-- "Block: instruction count, instructions .."
unfoldable pub pieces : Program → List Piece
pieces p =
    num 1 ∷ num p.variables ∷ num (length p.constants) ∷ num (length p.functions) ∷ num (length p.blocks)
    ∷ each length_and p.constants ++ each function p.functions ++ each (counted instruction) p.blocks

-- the program's bytes
unfoldable pub written : Program → List ℕ
written p = spelt (pieces p)
