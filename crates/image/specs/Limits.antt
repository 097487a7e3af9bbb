-- The programs within the document's limits: those that an image can hold.
use Rattle.std.specs.Prelude.{ℕ, ◌^◌, ◌≤◌, ◌<◌, Bool, true, ◌≡◌, length, get_or}
use mathlib.Core.List.{List, [], ◌∷◌, flatten}
use Rattle.std.proofs.Math.Option.{Option, none, some}
use Rattle.value.specs.Tags.{holds}
use Rattle.image.specs.Image.{Counts, most_parameters}
use Rattle.image.specs.Program.{Program, code, Operand, literal, Slot, Branch, Declared, Item, Function, Instruction, Jump, Switch, Assign, ConstantAddress, Call, Return, IntCmp', FloatCmp', Add, Sub, Mul, Div, Mod, FDiv, Not, Negate, Offset, Initialize, Write, Read, Copy, Drop}
use Rattle.image.specs.Written.{written}

-- ---- shapes of fields

unfoldable pub Each : {A : Type 0} → (A → Type 0) → List A → Type 0
Each ok [] = Unit
Each ok (x ∷ xs) = ok x × Each ok xs

-- at most so many, and each of them
abbrev pub UpTo : {A : Type 0} → ℕ → (A → Type 0) → List A → Type 0
UpTo most ok xs = (length xs ≤ most) × Each ok xs

unfoldable pub IfAny : {A : Type 0} → (A → Type 0) → Option A → Type 0
IfAny ok none = Unit
IfAny ok (some a) = ok a

abbrev pub IsByte : ℕ → Type 0
IsByte b = b < 256

-- a list of bytes, told place by place
abbrev pub AreBytes : List ℕ → Type 0
AreBytes s = (k : ℕ) → IsByte (get_or s k 0)

-- "A constant item has flag 1 (else 3)"
unfoldable pub Flagged : Item → Bool → Type 0
Flagged Item.function flag = Unit
Flagged Item.constant_item flag = flag ≡ true

-- the sizes "(0..32,768)"
abbrev pub IsSize : ℕ → Type 0
IsSize z = z ≤ 32768

-- what the table of opcodes calls u32
abbrev pub IsU32 : ℕ → Type 0
IsU32 v = v < 2 ^ 32

-- ---- fields, where there are so many variables, constants, functions and blocks

module _ (n : Counts) where
  abbrev pub IsVariable : ℕ → Type 0
  IsVariable v = v < n.variables

  abbrev pub IsLabel : ℕ → Type 0
  IsLabel l = l < n.blocks

  abbrev pub IsConstant : ℕ → Type 0
  IsConstant c = c < n.constants

  abbrev pub IsFunction : ℕ → Type 0
  IsFunction f = f < n.functions

  -- "a value too large for its width or kind"
  unfoldable pub IsOperand : Operand → Type 0
  IsOperand (Operand.variable v) = IsVariable v
  IsOperand (literal v) = holds v.kind v.bits ≡ true

  abbrev pub IsSlot : Slot → Type 0
  IsSlot s = IsVariable s.var × IsSize s.size

  -- the number is any that can be written
  abbrev pub IsBranch : Branch → Type 0
  IsBranch b = (b.number < 2 ^ 64) × IsLabel b.label

  abbrev pub IsDeclared : Declared → Type 0
  IsDeclared d = IsVariable d.to

  -- "One table gives each opcode's fields, opcodes 0 to 21."
  unfoldable pub IsInstruction : Instruction → Type 0
  IsInstruction (Jump label) = IsLabel label
  IsInstruction (Switch examinee branches default) = IsOperand examinee × UpTo 64 IsBranch branches × IsLabel default
  IsInstruction (Assign to a type) = IsVariable to × IsOperand a
  IsInstruction (ConstantAddress to constant) = IsVariable to × IsConstant constant
  IsInstruction (Call to context function arguments return_pointer) =
      IfAny IsDeclared to × IfAny IsOperand context × IsFunction function × UpTo 16 IsOperand arguments × IfAny IsVariable return_pointer
  IsInstruction (Return a) = IfAny IsOperand a
  IsInstruction (IntCmp' to cmp a b) = IsVariable to × IsOperand a × IsOperand b
  IsInstruction (FloatCmp' to cmp a b) = IsVariable to × IsOperand a × IsOperand b
  IsInstruction (Add to a b) = IsVariable to × IsOperand a × IsOperand b
  IsInstruction (Sub to a b) = IsVariable to × IsOperand a × IsOperand b
  IsInstruction (Mul to a b) = IsVariable to × IsOperand a × IsOperand b
  IsInstruction (Div to signed a b) = IsVariable to × IsOperand a × IsOperand b
  IsInstruction (Mod to signed a b) = IsVariable to × IsOperand a × IsOperand b
  IsInstruction (FDiv to a b) = IsVariable to × IsOperand a × IsOperand b
  IsInstruction (Not to a) = IsVariable to × IsOperand a
  IsInstruction (Negate to a) = IsVariable to × IsOperand a
  IsInstruction (Offset to a by) = IsVariable to × IsOperand a × IsU32 by
  IsInstruction (Initialize to size raw) = IsVariable to × IsSize size × UpTo 256 IsByte raw
  IsInstruction (Write where' what) = IsOperand where' × IsOperand what
  IsInstruction (Read to from type) = IsVariable to × IsOperand from
  IsInstruction (Copy to from size) = IsOperand to × IsOperand from × IsU32 size
  IsInstruction (Drop a) = IsOperand a

  -- "parameter count (0..16) and variables, slot count (0..16) and pairs"; "A constant item has flag 1 (else 3) and no parameters (else 4)."
  pub record IsFunctionItem (f : Function) : Type 0 where
    pub entry : IsLabel f.entry
    pub return_var : IsVariable f.return_var
    pub context_var : IsVariable f.context_var
    pub return_pointer : Flagged f.item f.return_pointer
    pub parameters : UpTo (most_parameters f.item) IsVariable f.parameters
    pub slots : UpTo 16 IsSlot f.slots

-- a program's own counts
abbrev pub counts_of : Program → Counts
counts_of P = record { variables = P.variables; constants = length P.constants; functions = length P.functions; blocks = length P.blocks }

-- "counts of variables (0..256), constants (0..64), functions (0..64), blocks (0..512)", 8,192 bytes of constants and 4,096 instructions
-- over all, and "An image is at most 32,768 bytes."
pub record WithinLimits (P : Program) : Type 0 where
  pub variable_count : P.variables ≤ 256
  pub constant_count : length P.constants ≤ 64
  pub function_count : length P.functions ≤ 64
  pub block_count : length P.blocks ≤ 512
  pub constant_bytes : length (flatten P.constants) ≤ 8192
  pub instruction_count : length (code P) ≤ 4096
  pub constants : Each (Each IsByte) P.constants
  pub functions : Each (IsFunctionItem (counts_of P)) P.functions
  pub blocks : Each (Each (IsInstruction (counts_of P))) P.blocks
  pub size : length (written P) ≤ 32768
