-- One step of the code is one step of the believed machine: the opcode that stands at the place decides, and each instruction agrees.
use Prim.Native.Nat.{ℕ, zero, suc, ◌≤◌, ◌<◌}
use native.Mathlib.Omega.{arith}
use mathlib.Core.Path.{◌≡◌, refl}
use mathlib.Core.List.{List, [], ◌∷◌, ◌++◌}
use mathlib.Core.Option.{none, some}
use lib.ListN.{length, get_or, get_elem?}
use lib.Dec.{leb}
use borrow.Author.Tests.{leb-true, leb-false}
use Rattle.value.specs.Answer.{Answer, ◌>>=◌}
use Rattle.value.specs.Answer as Answer
use Rattle.value.specs.Tags.{int_cmp_number, float_cmp_number}
use Rattle.image.specs.Program.{Program, code, Instruction, Jump, Switch, Assign, ConstantAddress, Call, Return, IntCmp', FloatCmp', Add, Sub, Mul, Div, Mod, FDiv, Not, Negate, Offset, Initialize, Write, Read, Copy, Drop}
use Rattle.image.specs.Written.{Piece, num, flag_number, type_number, length_and, counted, maybe}
use Rattle.image.specs.Written as W
use Rattle.memory.specs.Memory.{Memory}
use Rattle.memory.specs.Tables.{State}
use Rattle.memory.proofs.Every.{by_test}
use Rattle.machine.specs.Machine.{Stepped, execute, step}
use Rattle.machine.specs.Believed.{believed}
use Rattle.image.specs.Standing.{Stand}
use Rattle.instruction.specs.Decode.{field_at}
use Rattle.agree.specs.Seen.{Runs, seen}
use Rattle.image.specs.Limits.{IsInstruction, counts_of}
use Rattle.step.specs.Items.{Items}
use Rattle.step.specs.Step.{dispatched, stepped_of}
use Rattle.instruction.proofs.Fields.{field-stands}
use Rattle.agree.proofs.Finish.{refusal}
use Rattle.agree.proofs.Steady.{Steady, steady}
use Rattle.agree.proofs.Compute.{assign_agrees, int_compare_agrees, float_compare_agrees, add_agrees, sub_agrees, mul_agrees, div_agrees, mod_agrees, fdiv_agrees, not_agrees, negate_agrees}
use Rattle.agree.proofs.Jump.{jump_agrees, switch_agrees}
use Rattle.agree.proofs.Hand.{address_agrees, offset_agrees}
use Rattle.agree.proofs.Return.{return_agrees}
use Rattle.agree.proofs.Access.{write_agrees, read_agrees, copy_agrees}
use Rattle.agree.proofs.Initialize.{StepAgrees, drop_agrees, initialize_agrees}
use Rattle.agree.proofs.Follows.{Follows, variable-fits, operand-fits, optional-fits, three_fit, labels_fit}
use Rattle.agree.proofs.Call.{call_agrees}

-- the items of an image that was loaded, and its program
abbrev pub FollowsItems : Program → Items → Type 0
FollowsItems P i = Follows P i.bytes i.places i.labels i.functions i.extents

module _ (s : State) (st : Steady s) (room : s.memory.registers.next < 4096) (i : Items) (P : Program) (f : FollowsItems P i) where
  few : P.variables ≤ 256
  few = f.variables

  opened : (n : ℕ) (ps : List Piece) (at e : ℕ) (x : Answer (Stepped Memory)) → 0 < at → Stand i.bytes at (num n ∷ ps) e
      → ((k : ℕ) → 0 < k → Stand i.bytes k ps e → StepAgrees s (dispatched i s n k) x)
      → StepAgrees s (dispatched i s (field_at i.bytes at).value (field_at i.bytes at).next) x
  opened n ps at e x p h go = let (k, e₁, p₁, h₁) = field-stands i.bytes at n ps e p h in rw e₁ (go k p₁ h₁)

  dispatch_agrees : (d : Instruction) → IsInstruction (counts_of P) d → (at e : ℕ) → 0 < at → Stand i.bytes at (W.instruction d) e
      → StepAgrees s (dispatched i s (field_at i.bytes at).value (field_at i.bytes at).next) (execute believed P (seen s) d)
  unfolding W.instruction dispatched IsInstruction
  dispatch_agrees (Jump l) w at e p h = opened 0 (num l ∷ []) at e _ p h (λ k p h. jump_agrees s st i.bytes i.labels P f.labelled l w k e p h)
  dispatch_agrees (Switch x bs l) w at e p h =
      opened 1 (W.operand x ++ counted W.branch bs ++ W.number l) at e _ p h
      (λ k p h. switch_agrees s st i.bytes i.labels P f.labelled x bs l (operand-fits P few x w.0) (labels_fit P few bs w.1.1) w.2 k e p h)
  dispatch_agrees (Assign to x t) w at e p h =
      opened 2 (num to ∷ W.operand x ++ W.number (type_number t)) at e _ p h
      (λ k p h. assign_agrees s st room i.bytes P to x t (variable-fits P few to w.0) (operand-fits P few x w.1) k e p h)
  dispatch_agrees (ConstantAddress to c) w at e p h =
      opened 3 (num to ∷ num c ∷ []) at e _ p h (λ k p h. address_agrees s st room i.bytes P to c (variable-fits P few to w.0) k e p h)
  dispatch_agrees (Call to context g xs r) w at e p h =
      opened 4 (maybe W.declared to ++ maybe W.operand context ++ W.number g ++ counted W.operand xs ++ maybe W.number r) at e _ p h (λ k p h. call_agrees s st room P i.bytes i.places i.labels i.functions i.extents f to context g xs r w k e p h)
  dispatch_agrees (Return x) w at e p h = opened 5 (maybe W.operand x) at e _ p h (λ k p h. return_agrees s st i.bytes P x (optional-fits P few x w) k e p h)
  dispatch_agrees (IntCmp' to c x y) w at e p h =
      opened 6 (num to ∷ num (int_cmp_number c) ∷ W.operand x ++ W.operand y) at e _ p h (λ k p h. int_compare_agrees s st room i.bytes P to c x y (three_fit P few to x y w) k e p h)
  dispatch_agrees (FloatCmp' to c x y) w at e p h =
      opened 7 (num to ∷ num (float_cmp_number c) ∷ W.operand x ++ W.operand y) at e _ p h (λ k p h. float_compare_agrees s st room i.bytes P to c x y (three_fit P few to x y w) k e p h)
  dispatch_agrees (Add to x y) w at e p h =
      opened 8 (num to ∷ W.operand x ++ W.operand y) at e _ p h (λ k p h. add_agrees s st room i.bytes P to x y (three_fit P few to x y w) k e p h)
  dispatch_agrees (Sub to x y) w at e p h =
      opened 9 (num to ∷ W.operand x ++ W.operand y) at e _ p h (λ k p h. sub_agrees s st room i.bytes P to x y (three_fit P few to x y w) k e p h)
  dispatch_agrees (Mul to x y) w at e p h =
      opened 10 (num to ∷ W.operand x ++ W.operand y) at e _ p h (λ k p h. mul_agrees s st room i.bytes P to x y (three_fit P few to x y w) k e p h)
  dispatch_agrees (Div to signed x y) w at e p h =
      opened 11 (num to ∷ num (flag_number signed) ∷ W.operand x ++ W.operand y) at e _ p h (λ k p h. div_agrees s st room i.bytes P to signed x y (three_fit P few to x y w) k e p h)
  dispatch_agrees (Mod to signed x y) w at e p h =
      opened 12 (num to ∷ num (flag_number signed) ∷ W.operand x ++ W.operand y) at e _ p h (λ k p h. mod_agrees s st room i.bytes P to signed x y (three_fit P few to x y w) k e p h)
  dispatch_agrees (FDiv to x y) w at e p h =
      opened 13 (num to ∷ W.operand x ++ W.operand y) at e _ p h (λ k p h. fdiv_agrees s st room i.bytes P to x y (three_fit P few to x y w) k e p h)
  dispatch_agrees (Not to x) w at e p h =
      opened 14 (num to ∷ W.operand x) at e _ p h (λ k p h. not_agrees s st room i.bytes P to x (variable-fits P few to w.0) (operand-fits P few x w.1) k e p h)
  dispatch_agrees (Negate to x) w at e p h =
      opened 15 (num to ∷ W.operand x) at e _ p h (λ k p h. negate_agrees s st room i.bytes P to x (variable-fits P few to w.0) (operand-fits P few x w.1) k e p h)
  dispatch_agrees (Offset to x by) w at e p h =
      opened 16 (num to ∷ W.operand x ++ W.number by) at e _ p h
      (λ k p h. offset_agrees s st room i.bytes P to x by (variable-fits P few to w.0) (operand-fits P few x w.1) (omega (arith, w.2)) k e p h)
  dispatch_agrees (Initialize to n bs) w at e p h =
      opened 17 (num to ∷ num n ∷ length_and bs) at e _ p h (λ k p h. initialize_agrees s st room i.bytes P f.bytes to n bs (variable-fits P few to w.0) k e p h)
  dispatch_agrees (Write x y) w at e p h =
      opened 18 (W.operand x ++ W.operand y) at e _ p h (λ k p h. write_agrees s st room i.bytes P x y (operand-fits P few x w.0) (operand-fits P few y w.1) k e p h)
  dispatch_agrees (Read to x t) w at e p h =
      opened 19 (num to ∷ W.operand x ++ W.number (type_number t)) at e _ p h
      (λ k p h. read_agrees s st room i.bytes i.extents P f.constants to x t (variable-fits P few to w.0) (operand-fits P few x w.1) k e p h)
  dispatch_agrees (Copy x y n) w at e p h =
      opened 20 (W.operand x ++ W.operand y ++ W.number n) at e _ p h
      (λ k p h. copy_agrees s st room i.bytes i.extents P f.constants x y n (operand-fits P few x w.0) (operand-fits P few y w.1) k e p h)
  dispatch_agrees (Drop x) w at e p h = opened 21 (W.operand x) at e _ p h (λ k p h. drop_agrees s st room P x)

-- ---- the step

there : (l : List Instruction) (k : ℕ) (d : Instruction) → k < length l → get_elem? l k ≡ some (get_or l k d)
there [] k d h = absurd (omega arith)
there (x ∷ l) zero d h = refl
there (x ∷ l) (suc k) d h = there l k d (omega arith)

nowhere : (l : List Instruction) (k : ℕ) → length l ≤ k → get_elem? l k ≡ none
nowhere [] k h = refl
nowhere (x ∷ l) zero h = absurd (omega arith)
nowhere (x ∷ l) (suc k) h = nowhere l k (omega arith)

module _ (s : State) (runs : Runs s) (i : Items) (P : Program) (f : FollowsItems P i) where
  pub step_agrees : StepAgrees s (stepped_of i s) (step believed P (seen s))
  unfolding stepped_of step Answer.found ◌>>=◌
  step_agrees =
      let k = s.memory.registers.next in
      let d = Jump 0 in
      by_test (leb (length i.places) k)
      (λ t. let out = leb-true (length i.places) k t in
      rw (t, nowhere (code P) k (omega (arith, f.placed))) (refusal refl))
      (λ t. let inside : k < length (code P) = omega (arith, f.placed, leb-false (length i.places) k t) in
      let h = f.stands d k inside in
      rw (t, there (code P) k d inside)
      (dispatch_agrees s (steady s runs) (omega (arith, f.instructions)) i P f (get_or (code P) k d) (f.within d k inside) (get_or i.places k 0) h.end h.past h.stand))
