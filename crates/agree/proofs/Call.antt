-- Call agrees with the believed machine, by its own theorem: its fields and its callee's stand in the image, and keep the loader's limits.
use Prim.Native.Nat.{ℕ, ◌≤◌, ◌<◌}
use native.Mathlib.Omega.{arith}
use mathlib.Core.Path.{◌≡◌, refl, subst}
use mathlib.Core.List.{List, [], ◌∷◌, ◌++◌}
use mathlib.Core.Option.{Option, none, some}
use lib.ListN.{length, get_or}
use borrow.Author.Tests.{lt-ltb, eq-eqb}
use Rattle.value.specs.Answer.{Answer}
use Rattle.image.specs.Program.{Program, Operand, Slot, Declared, Function, function_at, Call}
use Rattle.image.specs.Limits.{Each, IfAny, IsVariable, IsOperand, IsDeclared, IsSlot, IsFunctionItem, IsInstruction, counts_of}
use Rattle.image.specs.Written.{counted, maybe}
use Rattle.image.specs.Written as W
use Rattle.image.specs.Standing.{Stand}
use Rattle.memory.specs.Memory.{Memory}
use Rattle.memory.specs.Tables.{State}
use Rattle.machine.specs.Machine.{Stepped, to_of, execute}
use Rattle.machine.specs.Believed.{believed}
use Rattle.instruction.specs.Code as Code
use Rattle.calls.specs.Fields.{place_in}
use Rattle.calls.specs.Code.{called_of}
use Rattle.calls.proofs.VariablesAgree.{SlotsFit, ParametersFit, OperandsFit, ContextFits, VariableFits, FunctionFits}
use Rattle.calls.proofs.CallAgrees.{CallAgrees, call-refused, call-went, moved-sound, moved-seen}
use Rattle.calls.proofs.Stands.{standing_call_agrees}
use Rattle.agree.specs.Seen.{seen}
use Rattle.agree.proofs.Steady.{Steady, runs}
use Rattle.agree.proofs.Finish.{refusal, went-same}
use Rattle.agree.proofs.Hand.{ahead}
use Rattle.agree.proofs.Initialize.{StepAgrees}
use Rattle.agree.proofs.Follows.{Follows, variable-fits, operand-fits}

-- ---- the loader's limits are what a Call asks

module _ (P : Program) (few : P.variables ≤ 256) where
  variable_in_lem : (o : Option ℕ) → IfAny (IsVariable (counts_of P)) o → VariableFits o
  unfolding IfAny
  variable_in_lem none w = tt
  variable_in_lem (some x) w = variable-fits P few x w

  to_in : (o : Option Declared) → IfAny (IsDeclared (counts_of P)) o → VariableFits (to_of o)
  unfolding IfAny to_of
  to_in none w = tt
  to_in (some d) w = variable-fits P few d.to w

  context_in : (o : Option Operand) → IfAny (IsOperand (counts_of P)) o → ContextFits o
  unfolding IfAny
  context_in none w = tt
  context_in (some x) w = operand-fits P few x w

  operands_in : (xs : List Operand) → Each (IsOperand (counts_of P)) xs → OperandsFit xs
  unfolding Each
  operands_in [] w = tt
  operands_in (x ∷ xs) w = (operand-fits P few x w.0, operands_in xs w.1)

  parameters_in : (xs : List ℕ) → Each (IsVariable (counts_of P)) xs → ParametersFit xs
  unfolding Each
  parameters_in [] w = tt
  parameters_in (x ∷ xs) w = (variable-fits P few x w.0, parameters_in xs w.1)

  slots_in : (xs : List Slot) → Each (IsSlot (counts_of P)) xs → SlotsFit xs
  unfolding Each
  slots_in [] w = tt
  slots_in (x ∷ xs) w = (variable-fits P few x.var w.0.0, slots_in xs w.1)

  pub function_in : (F : Function) → IsFunctionItem (counts_of P) F → FunctionFits F
  function_in F w = record {
    result = variable-fits P few F.return_var w.return_var;
    context = variable-fits P few F.context_var w.context_var;
    parameters = parameters_in F.parameters w.parameters.1;
    slots = slots_in F.slots w.slots.1;
  }

pub place_in_lem : (functions : List ℕ) (g : ℕ) → g < length functions → place_in functions g ≡ get_or functions g 0
unfolding place_in
place_in_lem functions g l = rw (lt-ltb g (length functions) l)

module _ (s : State) (st : Steady s) (room : s.memory.registers.next < 4096) where
  -- what is said of a Call is what is said of a step
  as_step_lem : {r : Code.Stepped} {x : Answer (Stepped Memory)} → CallAgrees (ahead s) s.variables r x → StepAgrees s r x
  as_step_lem (call-refused n) = refusal refl
  as_step_lem (call-went t vars so good running place bytes) = record {
    same = went-same refl (eq-eqb _ 1 running) refl refl;
    kept = runs t vars so good running place (bytes st.bytes);
  }

  module _ (P : Program) (image places labels functions extents : List ℕ) (f : Follows P image places labels functions extents) where
    pub call_agrees : (to : Option Declared) (context : Option Operand) (g : ℕ) (arguments : List Operand) (returns : Option ℕ)
        → IsInstruction (counts_of P) (Call to context g arguments returns) → (at e : ℕ) → 0 < at
        → Stand image at (maybe W.declared to ++ maybe W.operand context ++ W.number g ++ counted W.operand arguments ++ maybe W.number returns) e
        → StepAgrees s (called_of (ahead s) s.variables image labels functions at) (execute believed P (seen s) (Call to context g arguments returns))
    unfolding IsInstruction
    call_agrees to context g arguments returns w at e p h =
        let few = f.variables in
        let F = function_at P g in
        let lab = f.labelled in
        let there = f.function_stands g w.2 in
        let inside = f.function_within g w.2 in
        let place : place_in functions g ≡ get_or functions g 0 = place_in_lem functions g (omega (arith, f.functions_placed, w.2)) in
        as_step_lem
        (subst (λ (m : Memory). CallAgrees (ahead s) s.variables (called_of (ahead s) s.variables image labels functions at)
        (execute believed P (record { memory = m; running = (seen s).running; place = (seen s).place; vars = (seen s).vars }) (Call to context g arguments returns)))
        (moved-seen s.memory _ _)
        (standing_call_agrees P image labels functions (ahead s) s.variables at e there.end s.memory.registers.next (seen s).running to context g arguments returns p h
        (rw place there.past) (rw place there.stand) (moved-sound s.memory _ _ st.memory) st.variables st.running refl room
        (record { to = to_in P few to w.0; context = context_in P few context w.1; arguments = operands_in P few arguments w.3.1; returns = variable_in_lem P few returns w.4 })
        (function_in P few F inside) (omega (arith, lab.room, inside.entry)) (lab.leads F.entry inside.entry) (lab.within F.entry inside.entry)))
