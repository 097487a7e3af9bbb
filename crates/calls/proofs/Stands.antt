-- Where a Call and its callee stand in an image, the code reads them again: each field is found at its place, and the next begins where it ends.
use Prim.Native.Nat.{ℕ, suc, ◌+◌, ◌<◌, ◌≤◌}
use native.Mathlib.Numerals.{add-one}
use native.Mathlib.Omega.{arith}
use mathlib.Core.Bool.{Bool}
use mathlib.Core.Path.{◌≡◌, refl, ap, ◌∙◌}
use mathlib.Core.List.{List, [], ◌∷◌, ◌++◌, append_assoc}
use mathlib.Core.Option.{Option, none, some}
use lib.ListN.{length, get_or}
use borrow.Author.Tests.{lt-leb, ne_eqb}
use Rattle.image.specs.Program.{Operand, Slot, Declared, Program, Function, function_at, place_of, Call}
use Rattle.image.specs.Written.{Piece, num}
use Rattle.image.specs.Written as W
use Rattle.std.specs.Prelude as P
use Rattle.image.specs.Standing.{Stand}
use Rattle.memory.specs.Tables.{Tables}
use Rattle.memory.specs.View.{view, variables_in}
use Rattle.memory.proofs.Facts.{Sound}
use Rattle.memory.proofs.Exists.{variable_out}
use Rattle.machine.specs.Machine.{to_of, execute}
use Rattle.machine.specs.Believed.{believed}
use Rattle.instruction.specs.Decode.{field, field_at, operand_at}
use Rattle.instruction.specs.declared.field.Field.{Field}
use Rattle.instruction.specs.declared.field.Operand as code
use Rattle.instruction.proofs.Decoded.{as_read}
use Rattle.instruction.proofs.Values.{Variables}
use Rattle.instruction.proofs.Fields.{field-stands, operand-stands}
use Rattle.calls.specs.Fields.{numbers_skipped, operands_skipped, one_more, variable_of, optional_variable, optional_to, optional_operand, slot_at, call_at, callee_at, place_in}
use Rattle.calls.specs.Code.{called_of}
use Rattle.calls.specs.declared.fields.Spot.{Spot}
use Rattle.calls.proofs.SlotsAgree.{SlotsRead}
use Rattle.calls.proofs.VariablesAgree.{ParametersRead, OperandsRead, ContextRead, VariableFits, read_next, CalleeRead, FunctionFits, CallRead, CallFits}
use Rattle.calls.proofs.CallAgrees.{CallAgrees, calling_of, call_agrees}

module _ (s : List ℕ) where
  -- ---- a number, and an operand

  -- what is read at a place, and then the rest stands
  data Then (Read : ℕ → Type 0) (ps : List Piece) (e : ℕ) : Type 0 where
    stood : (next : ℕ) → Read next → 0 < next → Stand s next ps e → Then Read ps e

  onward : {R : Type 0} {Read : ℕ → Type 0} {ps : List Piece} {e : ℕ} → Then Read ps e → ((next : ℕ) → Read next → 0 < next → Stand s next ps e → R) → R
  onward (stood next r l st) f = f next r l st

  number-stands : (at v : ℕ) (ps : List Piece) (e : ℕ) → 0 < at → Stand s at (num v ∷ ps) e → Then (λ next. field_at s at ≡ field v next) ps e
  number-stands at v ps e l st = let (next, r, p, rest) = field-stands s at v ps e l st in stood next r p rest

  operand_there : (at : ℕ) (x : Operand) (ps : List Piece) (e : ℕ) → 0 < at → Stand s at (W.operand x ++ ps) e → Then (λ next. operand_at s at ≡ as_read x next) ps e
  operand_there at x ps e l st = let (next, r, p, rest) = operand-stands s at x ps e l st in stood next r p rest

  slot-stands : (at : ℕ) (x : Slot) (ps : List Piece) (e : ℕ) → 0 < at → Stand s at (W.slot x ++ ps) e
      → Then (λ next. slot_at s at ≡ record { variable = x.var; size = x.size; next = next }) ps e
  unfolding slot_at
  slot-stands at x ps e l st =
      onward (number-stands at x.var (num x.size ∷ ps) e l st)
      (λ m r p rest. onward (number-stands m x.size ps e p rest)
      (λ next q o more. stood next (rw (r, q)) o more))

  -- ---- optional fields

  more-read : (at x next : ℕ) → x < 256 → field_at s at ≡ field x next → one_more s (field_at s at) ≡ field (suc x) next
  unfolding one_more
  more-read at x next l r = rw (r, lt-leb 256 x l, add-one)

  variable-stands : (at : ℕ) (o : Option ℕ) (ps : List Piece) (e : ℕ) → 0 < at → VariableFits o → Stand s at (W.maybe W.number o ++ ps) e
      → Then (λ next. optional_variable s at ≡ field (variable_out o) next) ps e
  unfolding optional_variable
  variable-stands at none ps e l f st = onward (number-stands at 0 ps e l st) (λ next r p rest. stood next (rw r) p rest)
  variable-stands at (some x) ps e l f st =
      onward (number-stands at 1 (num x ∷ ps) e l st)
      (λ m r p rest. onward (number-stands m x ps e p rest)
      (λ next q o more. stood next (rw r (more-read m x next f q)) o more))

  variable-last : (at : ℕ) (o : Option ℕ) (e : ℕ) → 0 < at → VariableFits o → Stand s at (W.maybe W.number o) e → Then (λ next. optional_variable s at ≡ field (variable_out o) next) [] e
  variable-last at none e l f st = variable-stands at none [] e l f st
  variable-last at (some x) e l f st = variable-stands at (some x) [] e l f st

  to-stands : (at : ℕ) (d : Option Declared) (ps : List Piece) (e : ℕ) → 0 < at → VariableFits (to_of d) → Stand s at (W.maybe W.declared d ++ ps) e
      → Then (λ next. optional_to s at ≡ field (variable_out (to_of d)) next) ps e
  unfolding optional_to to_of
  to-stands at none ps e l f st = onward (variable-stands at none ps e l tt st) (λ next r p rest. stood next (rw r) p rest)
  to-stands at (some d) ps e l f st =
      onward (variable-stands at (some d.to) (num (W.type_number d.type) ∷ ps) e l f st)
      (λ m r p rest. onward (number-stands m (W.type_number d.type) ps e p rest)
      (λ next q o more. stood next (rw (r, ne_eqb (suc d.to) 0 (λ z. omega arith), q)) o more))

  -- where an optional operand stands, and the place after it
  abbrev ContextAt : (at : ℕ) → Option Operand → (next : ℕ) → Type 0
  ContextAt at o next = (start : P.Option ℕ) × (optional_operand s at ≡ record { start = start; next = next }) × ContextRead s start o

  context-stands : (at : ℕ) (o : Option Operand) (ps : List Piece) (e : ℕ) → 0 < at → Stand s at (W.maybe W.operand o ++ ps) e → Then (ContextAt at o) ps e
  unfolding optional_operand
  context-stands at none ps e l st = onward (number-stands at 0 ps e l st) (λ next r p rest. stood next (P.None, rw r, refl) p rest)
  context-stands at (some o) ps e l st =
      onward (number-stands at 1 (W.operand o ++ ps) e l st)
      (λ m r p rest. onward (operand_there m o ps e p rest)
      (λ next q a more. stood next (P.Some m, rw (r, q, read_next o next), (m, refl, (next, (q, a)))) a more))

  -- ---- one item after another

  operands_stand : (at : ℕ) (os : List Operand) (ps : List Piece) (e : ℕ) → 0 < at → Stand s at (W.each W.operand os ++ ps) e
      → Then (λ next. (operands_skipped s (length os) at ≡ next) × OperandsRead s at os) ps e
  unfolding operands_skipped
  operands_stand at [] ps e l st = stood at (refl, tt) l st
  operands_stand at (o ∷ os) ps e l st =
      onward (operand_there at o (W.each W.operand os ++ ps) e l (rw append_assoc at st))
      (λ m r p rest. onward (operands_stand m os ps e p rest)
      (λ next q a more. stood next (ap (λ (x : code.Operand). operands_skipped s (length os) x.next) r ∙ ap (operands_skipped s (length os)) (read_next o m) ∙ q.0, (m, (r, p), q.1)) a more))

  numbers-stand : (at : ℕ) (xs : List ℕ) (ps : List Piece) (e : ℕ) → 0 < at → Stand s at (W.each W.number xs ++ ps) e
      → Then (λ next. (numbers_skipped s (length xs) at ≡ next) × ParametersRead s at xs) ps e
  unfolding numbers_skipped
  numbers-stand at [] ps e l st = stood at (refl, tt) l st
  numbers-stand at (x ∷ xs) ps e l st =
      onward (number-stands at x (W.each W.number xs ++ ps) e l st)
      (λ m r p rest. onward (numbers-stand m xs ps e p rest)
      (λ next q a more. stood next (ap (λ (x : Field). numbers_skipped s (length xs) x.next) r ∙ q.0, (m, r, q.1)) a more))

  slots-stand : (at : ℕ) (xs : List Slot) (e : ℕ) → 0 < at → Stand s at (W.each W.slot xs) e → SlotsRead s at xs
  slots-stand at [] e l st = tt
  slots-stand at (x ∷ xs) e l st =
      onward (slot-stands at x (W.each W.slot xs) e l st)
      (λ m r p rest. (m, r, slots-stand m xs e p rest))

  -- ---- a Call, after its opcode, and a function

  call-read : (at : ℕ) (to : Field) (context : Spot) (callee given : Field) (after : ℕ) (pointer : Field)
      → optional_to s at ≡ to → optional_operand s to.next ≡ context → field_at s context.next ≡ callee → field_at s callee.next ≡ given
      → operands_skipped s given.value given.next ≡ after → optional_variable s after ≡ pointer
      → call_at s at ≡ record { to = to.value; context = context.start; callee = callee.value; given = given.value; arguments = given.next; pointer = variable_of pointer.value; next = pointer.next }
  unfolding call_at
  call-read at to context callee given after pointer a b c d e f = cc

  callee-read : (at : ℕ) (kind entry result context flag wanted : Field) (after : ℕ) (count : Field)
      → field_at s at ≡ kind → field_at s kind.next ≡ entry → field_at s entry.next ≡ result → field_at s result.next ≡ context → field_at s context.next ≡ flag
      → field_at s flag.next ≡ wanted → numbers_skipped s wanted.value wanted.next ≡ after → field_at s after ≡ count
      → callee_at s at ≡ record {
        entry = entry.value;
        result = result.value;
        context = context.value;
        flag = flag.value;
        wanted = wanted.value;
        parameters = wanted.next;
        count = count.value;
        slots = count.next;
      }
  unfolding callee_at
  callee-read at kind entry result context flag wanted after count a b c d e f g h = cc

  call-found : (at : ℕ) (to : Option Declared) (context : Option Operand) (f : ℕ) (os : List Operand) (returns : Option ℕ) (a : ℕ) (start : P.Option ℕ) (b c d g n : ℕ)
      → optional_to s at ≡ field (variable_out (to_of to)) a → optional_operand s a ≡ record { start = start; next = b } → field_at s b ≡ field f c → field_at s c ≡ field (length os) d
      → operands_skipped s (length os) d ≡ g → optional_variable s g ≡ field (variable_out returns) n → ContextRead s start context → OperandsRead s d os → 0 < n
      → CallRead s (call_at s at) (calling_of to context f os returns)
  call-found at to context f os returns a start b c d g n r₁ r₂ r₃ r₄ r₅ r₆ ctx args l =
      rw (call-read at (field (variable_out (to_of to)) a) (record { start = start; next = b }) (field f c) (field (length os) d) g (field (variable_out returns) n) r₁ r₂ r₃ r₄ r₅ r₆)
      (record { to = refl; context = ctx; callee = refl; given = refl; arguments = args; returns = refl; there = λ (e : n ≡ 0). omega arith })

  pub call-stands : (at : ℕ) (to : Option Declared) (context : Option Operand) (f : ℕ) (os : List Operand) (returns : Option ℕ) (e : ℕ) → 0 < at → VariableFits (to_of to) → VariableFits returns
      → Stand s at (W.maybe W.declared to ++ W.maybe W.operand context ++ W.number f ++ W.counted W.operand os ++ W.maybe W.number returns) e
      → CallRead s (call_at s at) (calling_of to context f os returns)
  call-stands at to context f os returns e l h i st =
      onward (to-stands at to (W.maybe W.operand context ++ (num f ∷ num (length os) ∷ (W.each W.operand os ++ W.maybe W.number returns))) e l h (simp append_assoc at st))
      (λ a r₁ l₁ st₁. onward (context-stands a context (num f ∷ num (length os) ∷ (W.each W.operand os ++ W.maybe W.number returns)) e l₁ st₁)
      (λ b q l₂ st₂. onward (number-stands b f (num (length os) ∷ (W.each W.operand os ++ W.maybe W.number returns)) e l₂ st₂)
      (λ c r₃ l₃ st₃. onward (number-stands c (length os) (W.each W.operand os ++ W.maybe W.number returns) e l₃ st₃)
      (λ d r₄ l₄ st₄. onward (operands_stand d os (W.maybe W.number returns) e l₄ st₄)
      (λ g o l₅ st₅. onward (variable-last g returns e l₅ i st₅)
      (λ n r₆ l₆ st₆. call-found at to context f os returns a q.0 b c d g n r₁ q.1 r₃ r₄ o.0 r₆ q.2 o.1 l₆))))))

  callee-found : (at : ℕ) (F : Function) (kind flag a b c d g h i n : ℕ)
      → field_at s at ≡ field kind a → field_at s a ≡ field F.entry b → field_at s b ≡ field F.return_var c → field_at s c ≡ field F.context_var d → field_at s d ≡ field flag g
      → field_at s g ≡ field (length F.parameters) h → numbers_skipped s (length F.parameters) h ≡ i → field_at s i ≡ field (length F.slots) n
      → flag ≡ W.flag_number F.return_pointer → ParametersRead s h F.parameters → SlotsRead s n F.slots → 0 < n → CalleeRead s (callee_at s at) F
  callee-found at F kind flag a b c d g h i n r₁ r₂ r₃ r₄ r₅ r₆ r₇ r₈ w ps xs l =
      rw (callee-read at (field kind a) (field F.entry b) (field F.return_var c) (field F.context_var d) (field flag g) (field (length F.parameters) h) i (field (length F.slots) n) r₁ r₂ r₃ r₄ r₅ r₆ r₇ r₈)
      (record { entry = refl; result = refl; context = refl; flag = w; wanted = refl; parameters = ps; count = refl; slots = xs; there = λ (e : n ≡ 0). omega arith })

  -- from the parameters on
  abbrev parameters_on : Function → List Piece
  parameters_on F = num (length F.parameters) ∷ (W.each W.number F.parameters ++ (num (length F.slots) ∷ W.each W.slot F.slots))

  pub function-stands : (at : ℕ) (F : Function) (e : ℕ) → 0 < at → Stand s at (W.function F) e → CalleeRead s (callee_at s at) F
  unfolding W.function
  function-stands at F e l st =
      onward (number-stands at (W.item_number F.item) (num F.entry ∷ num F.return_var ∷ num F.context_var ∷ num (W.flag_number F.return_pointer) ∷ parameters_on F) e l st)
      (λ a r₁ l₁ st₁. onward (number-stands a F.entry (num F.return_var ∷ num F.context_var ∷ num (W.flag_number F.return_pointer) ∷ parameters_on F) e l₁ st₁)
      (λ b r₂ l₂ st₂. onward (number-stands b F.return_var (num F.context_var ∷ num (W.flag_number F.return_pointer) ∷ parameters_on F) e l₂ st₂)
      (λ c r₃ l₃ st₃. onward (number-stands c F.context_var (num (W.flag_number F.return_pointer) ∷ parameters_on F) e l₃ st₃)
      (λ d r₄ l₄ st₄. onward (number-stands d (W.flag_number F.return_pointer) (parameters_on F) e l₄ st₄)
      (λ g r₅ l₅ st₅. onward (number-stands g (length F.parameters) (W.each W.number F.parameters ++ (num (length F.slots) ∷ W.each W.slot F.slots)) e l₅ st₅)
      (λ h r₆ l₆ st₆. onward (numbers-stand h F.parameters (num (length F.slots) ∷ W.each W.slot F.slots) e l₆ st₆)
      (λ i q l₇ st₇. onward (number-stands i (length F.slots) (W.each W.slot F.slots) e l₇ st₇)
      (λ n r₈ l₈ st₈. callee-found at F (W.item_number F.item) (W.flag_number F.return_pointer) a b c d g h i n r₁ r₂ r₃ r₄ r₅ r₆ q.0 r₈ refl q.1 (slots-stand n F.slots e l₈ st₈) l₈))))))))

-- Call agrees with the believed machine where it and its callee stand in the image: its fields from `at` on, after its opcode, and the callee where the loader's table leads.
pub standing_call_agrees : (P : Program) (s labels functions : List ℕ) (t : Tables) (vars : List ℕ) (at e end place : ℕ) (running : Bool)
    (to : Option Declared) (context : Option Operand) (function : ℕ) (arguments : List Operand) (returns : Option ℕ)
    → 0 < at → Stand s at (W.maybe W.declared to ++ W.maybe W.operand context ++ W.number function ++ W.counted W.operand arguments ++ W.maybe W.number returns) e
    → 0 < place_in functions function → Stand s (place_in functions function) (W.function (function_at P function)) end
    → Sound t → Variables vars → t.registers.running ≡ 1 → t.registers.next ≡ place + 1 → place < 4096
    → CallFits (calling_of to context function arguments returns) → FunctionFits (function_at P function)
    → (function_at P function).entry < length labels → get_or labels (function_at P function).entry 0 ≡ place_of P (function_at P function).entry → place_of P (function_at P function).entry ≤ 4096
    → CallAgrees t vars (called_of t vars s labels functions at)
    (execute believed P (record { memory = view t; running = running; place = place; vars = variables_in vars }) (Call to context function arguments returns))
standing_call_agrees P s labels functions t vars at e end place running to context function arguments returns l st l' st' so good runs next near fits inside there label small =
    call_agrees P s labels functions t vars at place running to context function arguments returns so good runs next near
    (call-stands s at to context function arguments returns e l fits.to fits.returns st) fits
    (function-stands s (place_in functions function) (function_at P function) end l' st') inside there label small
