-- What a step knows of an image that was loaded: where the items of its program stand, and that they keep the document's limits.
use Prim.Native.Nat.{ℕ, ◌≤◌, ◌<◌}
use native.Mathlib.Omega.{arith}
use mathlib.Core.Path.{◌≡◌}
use mathlib.Core.List.{List, [], ◌∷◌}
use mathlib.Core.Option.{Option, none, some}
use lib.ListN.{length, get_or}
use Rattle.image.specs.Program.{Program, Operand, variable, literal, Branch, function_at, code, Instruction}
use Rattle.image.specs.Written as W
use Rattle.image.specs.Standing.{Stands}
use Rattle.image.specs.Limits.{Each, IfAny, IsBranch, IsOperand, IsInstruction, IsFunctionItem, counts_of, AreBytes}
use Rattle.instruction.proofs.Values.{Fits}
use Rattle.agree.proofs.Compute.{ThreeFit}
use Rattle.agree.proofs.Jump.{Labelled, LabelsFit}
use Rattle.agree.proofs.Return.{FitsIf}
use Rattle.agree.proofs.Access.{Constants}

-- ---- the loader's limits are what each instruction asks

module _ (P : Program) (few : P.variables ≤ 256) where
  pub variable-fits : (x : ℕ) → x < P.variables → x < 256
  variable-fits x h = omega arith

  pub operand-fits : (x : Operand) → IsOperand (counts_of P) x → Fits x
  unfolding IsOperand
  operand-fits (variable x) h = variable-fits x h
  operand-fits (literal v) h = rw h tt

  pub optional-fits : (x : Option Operand) → IfAny (IsOperand (counts_of P)) x → FitsIf x
  unfolding IfAny
  optional-fits none h = tt
  optional-fits (some x) h = operand-fits x h

  pub three_fit : (to : ℕ) (x y : Operand) → (to < P.variables) × IsOperand (counts_of P) x × IsOperand (counts_of P) y → ThreeFit to x y
  three_fit to x y w = (variable-fits to w.0, operand-fits x w.1, operand-fits y w.2)

  pub labels_fit : (bs : List Branch) → Each (IsBranch (counts_of P)) bs → LabelsFit P bs
  unfolding Each
  labels_fit [] h = tt
  labels_fit (b ∷ bs) h = (h.0.1, labels_fit bs h.1)

-- what a step knows of an image that was loaded, of its program P and of the tables of its items' places
pub record Follows (P : Program) (image places labels functions extents : List ℕ) : Type 0 where
  pub bytes : AreBytes image
  pub variables : P.variables ≤ 256
  pub instructions : length (code P) ≤ 4096
  pub placed : length places ≡ length (code P)
  pub stands : (d : Instruction) (k : ℕ) → k < length (code P) → Stands image (get_or places k 0) (W.instruction (get_or (code P) k d))
  pub within : (d : Instruction) (k : ℕ) → k < length (code P) → IsInstruction (counts_of P) (get_or (code P) k d)
  pub labelled : Labelled P labels
  pub constants : Constants P image extents
  pub functions_placed : length functions ≡ length P.functions
  pub function_stands : (g : ℕ) → g < length P.functions → Stands image (get_or functions g 0) (W.function (function_at P g))
  pub function_within : (g : ℕ) → g < length P.functions → IsFunctionItem (counts_of P) (function_at P g)
