-- Call agrees with the believed machine: on sound tables it is refused with the same number and nothing has changed, or the tables after are sound again and show the believed machine's state.
use Rattle.std.specs.Prelude.{Ok, Err}
use Prim.Native.Nat.{ℕ, ◌+◌, ◌<◌, ◌≤◌}
use native.Mathlib.Omega.{arith}
use mathlib.Core.Bool.{Bool, true}
use mathlib.Core.Path.{◌≡◌, refl, sym, ap, ap₂, ◌∙◌, subst₂}
use mathlib.Core.List.{List}
use mathlib.Core.Option.{Option, none, some}
use lib.ListN.{length, get_or}
use borrow.Author.Tests.{ne_eqb, lt-ltb}
use Rattle.value.specs.declared.refusal.Refusal.{Refusal}
use Rattle.value.specs.Answer.{Answer, ok, refused, ◌>>=◌}
use Rattle.image.specs.Program.{Program, Operand, Declared, Function, function_at, place_of, Call}
use Rattle.memory.specs.Memory.{Memory, Back, push_frame}
use Rattle.memory.specs.Tables.{Tables, tables, registers}
use Rattle.memory.specs.View.{view, back_in, variables_in}
use Rattle.memory.proofs.Facts.{Sound}
use Rattle.memory.proofs.Exists.{variable_out, variable-back}
use Rattle.machine.specs.Machine.{Vars, Machine, went, set_from, as_variable, set_arguments, to_of, make_slots, execute}
use Rattle.machine.specs.Machine as Machine
use Rattle.machine.specs.Believed.{believed}
use Rattle.instruction.specs.Code.{Stepped, stepped}
use Rattle.instruction.specs.declared.step.Progress.TheVariants as progress
use Rattle.instruction.proofs.Values.{Variables}
use Rattle.instruction.specs.Storage.{unstepped}
use Rattle.calls.specs.Fields.{call_at, callee_at, place_in, entry_of}
use Rattle.calls.specs.Variables.{slots_pointed, slots_on, pointer_on}
use Rattle.calls.specs.Code.{arrived, called_in, called_of}
use Rattle.calls.specs.declared.fields.CallFields.{CallFields}
use Rattle.calls.specs.declared.fields.Callee.{Callee}
use Rattle.calls.proofs.Rooms.{by_room, call_room_given}
use Rattle.calls.proofs.SlotsAgree.{pointed}
use Rattle.calls.proofs.EnterAgrees.{call_room, EnterMade, enter-refused, enter-made}
use Rattle.calls.proofs.VariablesAgree.{Alike, same-refusal, same-values, VariableFits, slots-pointed, Calling, believed_rest, CalleeRead, FunctionFits, CallRead, CallFits, rest_alike}
use Rattle.image.specs.Limits.{AreBytes}

-- ---- the believed Call, its memory first and its variables then

-- one after another, grouped as the code does them
grouped : {A M B R : Type 0} (a : Answer A) (b : A → Answer (M × B)) (c d e : B → Answer B) (k : M → B → Answer R)
    → (do
      m ← a
      (n, v) ← b m
      w ← c v
      x ← d w
      y ← e x
      k n y) ≡ ((a >>= b) >>= λ r. (c r.1 >>= λ w. d w >>= e) >>= k r.0)
unfolding ◌>>=◌
grouped {A} {M} {B} {R} (refused n) b c d e k = refl
grouped {A} {M} {B} {R} (ok a) b c d e k = slots (b a)
  where
    context : (n : M) (o : Answer B) → (o >>= λ x. e x >>= λ y. k n y) ≡ ((o >>= e) >>= k n)
    context n (ok x) = refl
    context n (refused z) = refl

    pointer : (n : M) (o : Answer B) → (o >>= λ w. d w >>= λ x. e x >>= λ y. k n y) ≡ ((o >>= λ w. d w >>= e) >>= k n)
    pointer n (ok w) = context n (d w)
    pointer n (refused z) = refl

    slots : (o : Answer (M × B)) → (do
      (n, v) ← o
      w ← c v
      x ← d w
      y ← e x
      k n y) ≡ (o >>= λ r. (c r.1 >>= λ w. d w >>= e) >>= k r.0)
    slots (ok (n, v)) = pointer n (c v)
    slots (refused z) = refl

-- ---- what is said of a Call

-- "A refusal leaves state and lent buffers untouched"; else the tables after are sound, run, and show the believed machine's state
pub data CallAgrees (t : Tables) (vars : List ℕ) : Stepped → Answer (Machine.Stepped Memory) → Type 0 where
  call-refused : (n : Refusal) → CallAgrees t vars (unstepped t vars n) (refused n)
  call-went : (after : Tables) (vs : List ℕ) → Sound after → Variables vs → after.registers.running ≡ 1 → after.registers.next ≤ 4096 → (AreBytes t.store → AreBytes after.store)
      → CallAgrees t vars
      (stepped (Ok (progress.Next after.registers)) after.store after.frames after.bounds after.pointers vs)
      (ok (went (record { memory = view after; running = true; place = after.registers.next; vars = variables_in vs })))

-- whether the machine runs, and where, is no matter of the memory's
abbrev pub moved : Tables → (running next : ℕ) → Tables
moved t running next =
    tables (registers running next t.registers.counter t.registers.depth t.registers.pointers) t.store t.frames t.bounds t.pointers

pub moved-sound : (t : Tables) (running next : ℕ) → Sound t → Sound (moved t running next)
moved-sound t running next so = record {
  ready = so.ready;
  some = so.some;
  counted = so.counted;
  root = so.root;
  bottom = so.bottom;
  start = so.start;
  each = so.each;
  few = so.few;
  ends = so.ends;
  used = so.used;
  kinds = so.kinds;
}

pub moved-seen : (t : Tables) (running next : ℕ) → view (moved t running next) ≡ view t
unfolding view
moved-seen t running next = refl

word_small : (o : Option ℕ) → VariableFits o → variable_out o ≤ 256
word_small none f = omega arith
word_small (some x) f = omega arith

-- a Call whose fields were read, and whose callee begins at place k
module _ (s : List ℕ) (t : Tables) (vars : List ℕ) (so : Sound t) (good : Variables vars) (runs : t.registers.running ≡ 1) (near : t.registers.next ≤ 4096)
    (c : Calling) (call : CallFields) (read : CallRead s call c) (fits : CallFits c)
    (F : Function) (f : Callee) (callee : CalleeRead s f F) (inside : FunctionFits F) (k : ℕ) (small : k ≤ 4096) where
  to-small : call.to ≤ 256
  to-small = rw read.to (word_small c.to fits.to)

  abbrev finish : Memory → Vars → Answer (Machine.Stepped Memory)
  finish m vs = ok (went (record { memory = m; running = true; place = k; vars = vs }))

  abbrev memory_part : Answer (Memory × Vars)
  memory_part = push_frame (view t) (back_in t.registers.next call.to) >>= λ m. make_slots believed F.slots m (variables_in vars)

  abbrev rest : Memory × Vars → Answer (Machine.Stepped Memory)
  rest r = believed_rest F c r.1 >>= finish r.0

  abbrev table_part : Answer (List ℕ)
  table_part = slots_on s call f f.count f.slots t.registers.pointers vars

  abbrev Agreed : Type 0
  Agreed = CallAgrees t vars (called_in t vars s k call f) (memory_part >>= rest)

  no_room : (n : Refusal) → call_room s f t ≡ Err n → Agreed
  unfolding called_in ◌>>=◌
  no_room n e =
      subst₂ (λ (w : Stepped) (b : Answer (Machine.Stepped Memory)). CallAgrees t vars w b)
      (sym (rw e))
      (sym (ap (λ o. o >>= rest) (enter-refused s f F.slots t so callee.count callee.slots call.to near to-small n e (variables_in vars))))
      (call-refused n)

  module _ (e : call_room s f t ≡ Ok tt) where
    made : EnterMade s call.to f F.slots t
    made = enter-made s f F.slots t so callee.count callee.slots call.to near to-small e

    -- the believed machine's variables after its slots are made
    abbrev slots_shown : Vars
    slots_shown = pointed F.slots t.registers.pointers (variables_in vars)

    memory-made : memory_part >>= rest ≡ (believed_rest F c slots_shown >>= finish (view made.after))
    unfolding ◌>>=◌
    memory-made = ap (λ o. o >>= rest) (made.seen (variables_in vars))

    by_variables : (a : Answer (List ℕ)) (b : Answer Vars) → table_part ≡ a → believed_rest F c slots_shown ≡ b → Alike a b → Agreed
    unfolding called_in arrived ◌>>=◌
    by_variables a b i j (same-refusal n) =
        subst₂ (λ (w : Stepped) (b : Answer (Machine.Stepped Memory)). CallAgrees t vars w b)
        (sym (rw (e, i)))
        (sym (memory-made ∙ ap (λ o. o >>= finish (view made.after)) j))
        (call-refused n)
    by_variables a b i j (same-values vs v) =
        subst₂ (λ (w : Stepped) (b : Answer (Machine.Stepped Memory)). CallAgrees t vars w b)
        (sym (rw (e, i, made.entered')))
        (sym (memory-made ∙ ap (λ o. o >>= finish (view made.after)) j ∙ ap (λ m. finish m (variables_in vs)) (sym (moved-seen made.after _ k))))
        (call-went (moved made.after made.after.registers.running k) vs (moved-sound made.after _ k made.sound) v (made.running ∙ runs) small made.bytes)

    roomy : Agreed
    unfolding slots_on
    roomy =
        let g = call_room_given t.registers s f (length t.store) t.frames t.bounds (length t.pointers) e in
        let n = callee.count in
        let slots = slots-pointed s F.slots f.slots t.registers.pointers vars good callee.slots inside.slots (omega arith) in
        by_variables _ _
        (ap (λ j. pointer_on s call f (slots_pointed s j f.slots t.registers.pointers vars)) n)
        (ap (believed_rest F c) (sym slots.shown))
        (rest_alike s call f F c callee inside read fits _ slots.good)

  pub in_agrees : Agreed
  in_agrees = by_room (call_room s f t) roomy no_room

-- the fields of this Call, as the believed machine takes them
abbrev pub calling_of : Option Declared → Option Operand → (function : ℕ) → List Operand → Option ℕ → Calling
calling_of to context function arguments returns = record { to = to_of to; context = context; function = function; arguments = arguments; returns = returns }

pub entry_at : (labels : List ℕ) (f : Callee) {s : List ℕ} (F : Function) (k : ℕ) → CalleeRead s f F → F.entry < length labels → get_or labels F.entry 0 ≡ k → entry_of labels f ≡ Ok k
unfolding entry_of
entry_at labels f F k callee there label = simp (ne_eqb _ _ callee.there, callee.entry, lt-ltb _ _ there, label)

-- the fields lead to the callee's place
called_in_lem : (P : Program) (s labels functions : List ℕ) (t : Tables) (vars : List ℕ) (at : ℕ) (c : Calling) (F : Function) (k : ℕ)
    → CallRead s (call_at s at) c → CalleeRead s (callee_at s (place_in functions c.function)) F → F.entry < length labels → get_or labels F.entry 0 ≡ k
    → called_in t vars s k (call_at s at) (callee_at s (place_in functions c.function)) ≡ called_of t vars s labels functions at
unfolding called_of
called_in_lem P s labels functions t vars at c F k read callee there label =
    let f = callee_at s (place_in functions c.function) in
    let e : entry_of labels f ≡ Ok k = entry_at labels f F k callee there label in
    sym (rw (ne_eqb _ _ read.there, read.callee, e))

-- the frame returns to the next place, and to the variable `to`
back-same : (next place to : ℕ) (o : Option ℕ) → next ≡ place + 1 → to ≡ variable_out o → back_in next to ≡ record { place = place + 1; var = o }
back-same next place to o e d = ap₂ back_in e d ∙ ap (λ v. record { place = place + 1; var = v }) (variable-back o)

-- Call, with its fields and its callee's as they are read in the image. `t` has the place after the Call's already.
pub call_agrees : (P : Program) (s labels functions : List ℕ) (t : Tables) (vars : List ℕ) (at place : ℕ) (running : Bool)
    (to : Option Declared) (context : Option Operand) (function : ℕ) (arguments : List Operand) (returns : Option ℕ)
    → Sound t → Variables vars → t.registers.running ≡ 1 → t.registers.next ≡ place + 1 → place < 4096
    → CallRead s (call_at s at) (calling_of to context function arguments returns) → CallFits (calling_of to context function arguments returns)
    → CalleeRead s (callee_at s (place_in functions function)) (function_at P function) → FunctionFits (function_at P function)
    → (function_at P function).entry < length labels → get_or labels (function_at P function).entry 0 ≡ place_of P (function_at P function).entry → place_of P (function_at P function).entry ≤ 4096
    → CallAgrees t vars (called_of t vars s labels functions at)
    (execute believed P (record { memory = view t; running = running; place = place; vars = variables_in vars }) (Call to context function arguments returns))
unfolding execute
call_agrees P s labels functions t vars at place running to context function arguments returns so good runs next near read fits callee inside there label small =
    let F = function_at P function in
    let c = calling_of to context function arguments returns in
    let k = place_of P F.entry in
    let slots : Memory → Answer (Memory × Vars) = λ m. make_slots believed F.slots m (variables_in vars) in
    let finish : Memory → Vars → Answer (Machine.Stepped Memory) = λ m vs. ok (went (record { memory = m; running = true; place = k; vars = vs })) in
    subst₂ (λ (w : Stepped) (b : Answer (Machine.Stepped Memory)). CallAgrees t vars w b)
    (called_in_lem P s labels functions t vars at c F k read callee there label)
    (ap (λ (b : Back). (push_frame (view t) b >>= slots) >>= λ r. believed_rest F c r.1 >>= finish r.0) (back-same _ place _ (to_of to) next read.to)
    ∙ sym (grouped (push_frame (view t) (record { place = place + 1; var = to_of to })) slots
    (λ vs. set_from vs F.return_var (as_variable returns)) (λ vs. set_from vs F.context_var context) (λ vs. set_arguments vs F.parameters arguments) finish))
    (in_agrees s t vars so good runs (omega arith) c (call_at s at) read fits F (callee_at s (place_in functions function)) callee inside k small)
