-- A program, as an image gives it: its constants, its functions and its blocks of instructions.
use Rattle.std.specs.Prelude.{ℕ, Bool, false, length, get_or, take}
use mathlib.Core.List.{List, [], flatten}
use Rattle.std.proofs.Math.Option.{Option}
use Rattle.value.specs.Value.{Value, IrType, IntCmp, FloatCmp}

-- "Operand: tag 0 and a variable, or a value's tag and its bits"
pub data Operand : Type 0 where
  variable : ℕ → Operand
  literal : Value → Operand

-- "pairs of variable and size"
pub record Slot : Type 0 where
  pub var : ℕ
  pub size : ℕ

-- "pairs of number and label"
pub record Branch : Type 0 where
  pub number : ℕ
  pub label : ℕ

-- "optional (to, type)"
pub record Declared : Type 0 where
  pub to : ℕ
  pub type : IrType

-- opcodes 0 to 21, with their fields in the order of 01's table
pub data Instruction : Type 0 where
  Jump : (label : ℕ) → Instruction
  Switch : Operand → List Branch → (default : ℕ) → Instruction
  Assign : (to : ℕ) → Operand → IrType → Instruction
  ConstantAddress : (to constant : ℕ) → Instruction
  Call : Option Declared → (context : Option Operand) → (function : ℕ) → List Operand → (return_pointer : Option ℕ) → Instruction
  Return : Option Operand → Instruction
  IntCmp' : (to : ℕ) → IntCmp → Operand → Operand → Instruction
  FloatCmp' : (to : ℕ) → FloatCmp → Operand → Operand → Instruction
  Add : (to : ℕ) → Operand → Operand → Instruction
  Sub : (to : ℕ) → Operand → Operand → Instruction
  Mul : (to : ℕ) → Operand → Operand → Instruction
  Div : (to : ℕ) → (signed : Bool) → Operand → Operand → Instruction
  Mod : (to : ℕ) → (signed : Bool) → Operand → Operand → Instruction
  FDiv : (to : ℕ) → Operand → Operand → Instruction
  Not : (to : ℕ) → Operand → Instruction
  Negate : (to : ℕ) → Operand → Instruction
  Offset : (to : ℕ) → Operand → (by : ℕ) → Instruction
  Initialize : (to size : ℕ) → List ℕ → Instruction
  Write : (where' what : Operand) → Instruction
  Read : (to : ℕ) → Operand → IrType → Instruction
  Copy : (to from : Operand) → (size : ℕ) → Instruction
  Drop : Operand → Instruction

-- "kind (0 function, 1 constant item)"
pub data Item : Type 0 where
  function constant_item : Item

pub record Function : Type 0 where
  pub item : Item
  pub entry : ℕ
  pub return_var : ℕ
  pub context_var : ℕ
  pub return_pointer : Bool
  pub parameters : List ℕ
  pub slots : List Slot

pub record Program : Type 0 where
  pub variables : ℕ
  pub constants : List (List ℕ)
  pub functions : List Function
  pub blocks : List (List Instruction)

-- one for beyond the last: an accepted program names none
abbrev pub no_function : Function
no_function = record { item = Item.function; entry = 0; return_var = 0; context_var = 0; return_pointer = false; parameters = []; slots = [] }

abbrev pub function_at : Program → ℕ → Function
function_at P f = get_or P.functions f no_function

abbrev pub code : Program → List Instruction
code P = flatten P.blocks

-- "A label is a block's position; an empty block's label means the next instruction in the flat list."
abbrev pub place_of : Program → (label : ℕ) → ℕ
place_of P label = length (flatten (take label P.blocks))
