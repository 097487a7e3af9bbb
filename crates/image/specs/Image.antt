-- The grammar of an image, field by field in its order, and what it answers: the program, or the first refusal's number and place.
use Rattle.std.specs.Prelude.{ℕ, ◌^◌, Bool, true, false, List, [], ◌∷◌, map, length, leb, eqb}
use Rattle.std.proofs.Math.Option
use Rattle.std.proofs.Math.Option.{Option, none, some}
use Rattle.value.specs.Answer.{pick}
use Rattle.value.specs.Refusal.{unknown, over_limit, beyond_count}
use Rattle.value.specs.Value.{Kind, IrType, value}
use Rattle.value.specs.Tags.{kind_at, type_at, holds, int_cmp_at, float_cmp_at}
use Rattle.image.specs.Parse.{Got, took, refused, Field, Placed, and_then, give, many, within, placed, ◌>>=◌, one, two, three, four, five}
use Rattle.image.specs.Number.{number}
use Rattle.image.specs.Fields.{such, below, at_most, listed, known, optional, list_of, bytes, at_end}
use Rattle.image.specs.Program.{Program, Operand, literal, Slot, Branch, Declared, Item, Function, Instruction, Jump, Switch, Assign, ConstantAddress, Call, Return, IntCmp', FloatCmp', Add, Sub, Mul, Div, Mod, FDiv, Not, Negate, Offset, Initialize, Write, Read, Copy, Drop}

-- "counts of variables (0..256), constants (0..64), functions (0..64), blocks (0..512)"
pub record Counts : Type 0 where
  pub variables : ℕ
  pub constants : ℕ
  pub functions : ℕ
  pub blocks : ℕ

-- a program with the place of each item's first byte
pub record Image : Type 0 where
  pub variables : ℕ
  pub constants : List (Placed (List ℕ))
  pub functions : List (Placed Function)
  pub blocks : List (List (Placed Instruction))

abbrev pub versions : List (Option ℕ)
versions = none ∷ some 1 ∷ []

abbrev pub flags : List (Option Bool)
flags = some false ∷ some true ∷ []

-- "kind (0 function, 1 constant item)"
abbrev pub items : List (Option Item)
items = some Item.function ∷ some Item.constant_item ∷ []

-- "A constant item has flag 1 (else 3) and no parameters (else 4)."
abbrev pub flags_of : Item → List (Option Bool)
flags_of Item.function = flags
flags_of Item.constant_item = none ∷ some true ∷ []

abbrev pub most_parameters : Item → ℕ
most_parameters Item.function = 16
most_parameters Item.constant_item = 0

-- "An image is at most 32,768 bytes." "An over-long image is 4 at place 0, before all else."
abbrev pub unless_long : {A : Type 0} → (length : ℕ) → Got A → Got A
unless_long length found = pick (leb length 32768) found (refused over_limit 0)

-- the fields of the image whose bytes are s
module _ (s : List ℕ) where
  -- "Header: version 1, then counts of variables (0..256), constants (0..64), functions (0..64), blocks (0..512)."
  unfoldable pub header : Field Counts
  header = do
    version ← known s (listed versions)
    variables ← at_most s 256
    constants ← at_most s 64
    functions ← at_most s 64
    blocks ← at_most s 512
    give (record { variables = variables; constants = constants; functions = functions; blocks = blocks })

  -- "a value too large for its width or kind"
  unfoldable pub literal_of : Kind → Field Operand
  literal_of k = one (λ b. literal (value k b)) (such s (holds k) unknown)

  -- a field that the table of opcodes calls u32
  unfoldable pub u32 : Field ℕ
  u32 = below s (2 ^ 32) unknown

  -- a size, of a slot or of Initialize
  unfoldable pub size : Field ℕ
  size = at_most s 32768

  -- "A type is such a tag without 0, 12, 13."
  unfoldable pub type : Field IrType
  type = known s type_at

  -- "Block: instruction count, instructions ..", where so many are left of the limit over all
  abbrev pub block : {A : Type 0} → (instruction : Field A) → (left : ℕ) → Field (List A)
  block instruction left = list_of s left instruction

  module _ (n : Counts) where
    -- "5 a variable, label, constant or function beyond its count"
    unfoldable pub var : Field ℕ
    var = below s n.variables beyond_count

    unfoldable pub label : Field ℕ
    label = below s n.blocks beyond_count

    unfoldable pub constant : Field ℕ
    constant = below s n.constants beyond_count

    unfoldable pub callee : Field ℕ
    callee = below s n.functions beyond_count

    -- "Operand: tag 0 and a variable, or a value's tag and its bits as an unsigned number"
    abbrev pub form : (tag : ℕ) → Option (Field Operand)
    form tag = pick (eqb tag 0) (some (one Operand.variable var)) (Option.map literal_of (kind_at tag))

    unfoldable pub operand : Field Operand
    operand = do
      fields ← known s form
      fields

    unfoldable pub slot : Field Slot
    slot = two (λ v z. record { var = v; size = z }) var size

    unfoldable pub branch : Field Branch
    branch = two (λ v l. record { number = v; label = l }) (number s) label

    unfoldable pub declared : Field Declared
    declared = two (λ v t. record { to = v; type = t }) var type

    -- "One table gives each opcode's fields, opcodes 0 to 21."
    unfoldable pub table : List (Option (Field Instruction))
    table =
        some (one Jump label)
        ∷ some (three Switch operand (list_of s 64 branch) label)
        ∷ some (three Assign var operand type)
        ∷ some (two ConstantAddress var constant)
        ∷ some (five Call (optional s declared) (optional s operand) callee (list_of s 16 operand) (optional s var))
        ∷ some (one Return (optional s operand))
        ∷ some (four IntCmp' var (known s int_cmp_at) operand operand)
        ∷ some (four FloatCmp' var (known s float_cmp_at) operand operand)
        ∷ some (three Add var operand operand)
        ∷ some (three Sub var operand operand)
        ∷ some (three Mul var operand operand)
        ∷ some (four Div var (known s (listed flags)) operand operand)
        ∷ some (four Mod var (known s (listed flags)) operand operand)
        ∷ some (three FDiv var operand operand)
        ∷ some (two Not var operand)
        ∷ some (two Negate var operand)
        ∷ some (three Offset var operand u32)
        ∷ some (three Initialize var size (bytes s 256))
        ∷ some (two Write operand operand)
        ∷ some (three Read var operand type)
        ∷ some (three Copy operand operand u32)
        ∷ some (one Drop operand)
        ∷ []

    unfoldable pub instruction : Field Instruction
    instruction = do
      fields ← known s (listed table)
      fields

    -- "Function: kind .., entry label, return variable, context variable, return-pointer flag, parameter count (0..16) and variables,
    -- slot count (0..16) and pairs of variable and size (0..32,768)."
    unfoldable pub function : Field Function
    function = do
      item ← known s (listed items)
      entry ← label
      return_var ← var
      context_var ← var
      return_pointer ← known s (listed (flags_of item))
      parameters ← list_of s (most_parameters item) var
      slots ← list_of s 16 slot
      give (record { item = item; entry = entry; return_var = return_var; context_var = context_var; return_pointer = return_pointer; parameters = parameters; slots = slots })

    -- "Constant: length, raw bytes (8,192 over all)."
    unfoldable pub constants : Field (List (Placed (List ℕ)))
    constants = within (λ c. length c.item) 8192 n.constants (λ left. placed (bytes s left))

    -- "Block: instruction count, instructions (4,096 over all)."
    unfoldable pub blocks : Field (List (List (Placed Instruction)))
    blocks = within length 4096 n.blocks (block (placed instruction))

  unfoldable pub whole : Field Image
  whole = do
    n ← header
    constants ← constants n
    functions ← many n.functions (placed (function n))
    blocks ← blocks n
    end ← at_end s
    give (record { variables = n.variables; constants = constants; functions = functions; blocks = blocks })

  unfoldable pub image : Got Image
  image = unless_long (length s) (whole 0)

-- the program that an image gives, without the places
unfoldable pub program_of : Image → Program
program_of i = record {
  variables = i.variables;
  constants = map (λ c. c.item) i.constants;
  functions = map (λ f. f.item) i.functions;
  blocks = map (λ b. map (λ i. i.item) b) i.blocks;
}

-- What loading the bytes answers: the program and the image's length, or number and place.
unfoldable pub loaded : List ℕ → Got Program
loaded s = and_then (image s) (λ i end. took (program_of i) end)
