-- A program that an image gave is accepted by the machine that a reader believes: the loader's limits are all that it asks.
use Prim.Native.Nat.{ℕ}
use mathlib.Core.Bool.{Bool, true}
use mathlib.Core.Path.{◌≡◌, refl}
use mathlib.Core.List.{List, [], ◌∷◌}
use mathlib.Core.Option.{Option, none, some}
use lib.ListN.{length}
use lib.Dec.{ltb}
use borrow.Author.Tests.{lt-ltb, le-leb}
use Rattle.value.proofs.Truth.{and_true}
use Rattle.image.specs.Parse.{took}
use Rattle.image.specs.Image.{Counts, loaded}
use Rattle.image.specs.Program.{Program, Operand, variable, literal, Declared, code, Instruction, Jump, Switch, Assign, ConstantAddress, Call, Return, IntCmp', FloatCmp', Add, Sub, Mul, Div, Mod, FDiv, Not, Negate, Offset, Initialize, Write, Read, Copy, Drop}
use Rattle.machine.specs.Machine.{as_variable}
use Rattle.machine.specs.Sound.{all, are_bytes}
use Rattle.machine.specs.Accepted.{good_operand, good_optional, good_to, both, good_instruction, accepted}
use Rattle.image.specs.Limits.{Each, IfAny, IsByte, IsVariable, IsOperand, IsDeclared, IsInstruction, counts_of, AreBytes}
use Rattle.decode.proofs.Items.{flat_each, within-limits, code-within}

all_true : {A : Type 0} (ok : A → Type 0) (f : A → Bool) → ((a : A) → ok a → f a ≡ true) → (xs : List A) → Each ok xs → all f xs ≡ true
unfolding all Each
all_true ok f t [] h = refl
all_true ok f t (x ∷ xs) h = and_true (t x h.0) (all_true ok f t xs h.1)

are-bytes : (bs : List ℕ) → Each IsByte bs → are_bytes bs ≡ true
are-bytes = all_true IsByte (λ b. ltb b 256) (λ b h. lt-ltb b 256 h)

module _ (n : Counts) where
  good-operand : (o : Operand) → IsOperand n o → good_operand n.variables o ≡ true
  unfolding IsOperand good_operand
  good-operand (variable v) h = lt-ltb v n.variables h
  good-operand (literal v) h = h

  good-optional : (o : Option Operand) → IfAny (IsOperand n) o → good_optional n.variables o ≡ true
  unfolding IfAny good_optional
  good-optional none h = refl
  good-optional (some o) h = good-operand o h

  good-pointer : (o : Option ℕ) → IfAny (IsVariable n) o → good_optional n.variables (as_variable o) ≡ true
  unfolding IfAny good_optional as_variable good_operand
  good-pointer none h = refl
  good-pointer (some v) h = lt-ltb v n.variables h

  good-to : (o : Option Declared) → IfAny (IsDeclared n) o → good_to n.variables o ≡ true
  unfolding IfAny good_to
  good-to none h = refl
  good-to (some d) h = lt-ltb d.to n.variables h

  good-both : (a b : Operand) → IsOperand n a → IsOperand n b → both n.variables a b ≡ true
  good-both a b h k = and_true (good-operand a h) (good-operand b k)

  good-instruction : (i : Instruction) → IsInstruction n i → good_instruction n.variables i ≡ true
  unfolding IsInstruction good_instruction
  good-instruction (Jump l) h = refl
  good-instruction (Switch o bs d) h = good-operand o h.0
  good-instruction (Assign to a t) h = good-operand a h.1
  good-instruction (ConstantAddress to c) h = refl
  good-instruction (Call to context f os r) h =
      and_true (good-to to h.0) (and_true (good-pointer r h.4) (and_true (good-optional context h.1) (all_true (IsOperand n) (good_operand n.variables) good-operand os h.3.1)))
  good-instruction (Return o) h = good-optional o h
  good-instruction (IntCmp' to c a b) h = good-both a b h.1 h.2
  good-instruction (FloatCmp' to c a b) h = good-both a b h.1 h.2
  good-instruction (Add to a b) h = good-both a b h.1 h.2
  good-instruction (Sub to a b) h = good-both a b h.1 h.2
  good-instruction (Mul to a b) h = good-both a b h.1 h.2
  good-instruction (Div to signed a b) h = good-both a b h.1 h.2
  good-instruction (Mod to signed a b) h = good-both a b h.1 h.2
  good-instruction (FDiv to a b) h = good-both a b h.1 h.2
  good-instruction (Not to a) h = good-operand a h.1
  good-instruction (Negate to a) h = good-operand a h.1
  good-instruction (Offset to a by) h = good-operand a h.1
  good-instruction (Initialize to size bs) h = are-bytes bs h.2.1
  good-instruction (Write a b) h = good-both a b h.0 h.1
  good-instruction (Read to a t) h = good-operand a h.1
  good-instruction (Copy a b size) h = good-both a b h.0 h.1
  good-instruction (Drop a) h = good-operand a h

pub loaded-accepted : (s : List ℕ) → AreBytes s → (P : Program) (e : ℕ) → loaded s ≡ took P e → accepted P ≡ true
unfolding accepted
loaded-accepted s bytes P e h =
    let w = within-limits s bytes P e h in
    and_true (le-leb P.variables 256 w.variable_count)
    (and_true (le-leb (length (code P)) 4096 (code-within s bytes P e h))
    (and_true (all_true (Each IsByte) are_bytes are-bytes P.constants w.constants)
    (all_true (IsInstruction (counts_of P)) (good_instruction P.variables) (good-instruction (counts_of P)) (code P) (flat_each (IsInstruction (counts_of P)) P.blocks w.blocks))))
