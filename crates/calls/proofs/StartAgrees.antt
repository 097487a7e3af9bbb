-- A start agrees with the believed machine, once the checks of its entry are made: on sound idle tables it is refused with the same number and nothing has changed, or the tables after show the believed machine's state.
use Rattle.std.specs.Prelude.{Result, Ok, Err, ⊤}
use Prim.Native.Nat.{ℕ, ◌+◌, ◌*◌, ◌<◌, ◌≤◌}
use native.Mathlib.Omega.{arith}
use mathlib.Core.Bool.{Bool, true, false}
use mathlib.Core.Path.{◌≡◌, refl, sym, ap, ap₂, ◌∙◌, subst, subst₂, fun_ext}
use mathlib.Core.List.{List, [], ◌∷◌}
use lib.ListN.{length, get_or, replicate, length-replicate}
use lib.Dec.{ltb, eqb}
use borrow.Author.Tests.{eq-eqb, ne_eqb}
use Rattle.value.specs.declared.refusal.Refusal.{Refusal}
use Rattle.value.specs.Answer.{Answer, ok, refused, need, ◌>>=◌}
use Rattle.value.specs.Value.{Value, tag}
use Rattle.image.specs.Program.{Program, Function, function_at, place_of}
use Rattle.image.specs.Written.{flag_number}
use Rattle.memory.specs.Memory.{Memory}
use Rattle.memory.specs.Stored.{stored_value}
use Rattle.memory.specs.Tables.{Tables, stored_ok, variable_ok}
use Rattle.memory.specs.View.{view, variables_in}
use Rattle.memory.proofs.Beginning.{zeros}
use Rattle.memory.proofs.Facts.{Sound}
use Rattle.memory.proofs.Stored.{stored-none}
use Rattle.machine.specs.Machine.{Vars, Machine, unset, set_to, all_good, set_values, set_started, make_slots, start}
use Rattle.machine.specs.Believed.{believed}
use Rattle.machine.proofs.Values.{Good}
use Rattle.instruction.specs.Variables.{found, set_variable}
use Rattle.instruction.specs.Code.{Stepped, stepped}
use Rattle.instruction.specs.declared.field.Field.{Field}
use Rattle.instruction.specs.declared.variables.Found.{Found}
use Rattle.instruction.specs.declared.step.Progress.TheVariants as progress
use Rattle.instruction.proofs.Values.{Variables, variable-set, variables-kept}
use Rattle.instruction.specs.Storage.{unstepped}
use Rattle.calls.specs.Fields.{callee_at, place_in, entry_of}
use Rattle.calls.specs.Variables.{slots_pointed}
use Rattle.calls.specs.Code.{Entered, entered, slots_made_of, where_room}
use Rattle.calls.specs.Begin.{values_set, flagged_set, started_set, variables_set, ran_at, with_slots, begun_in, begun_of, tags_of, bits_of}
use Rattle.calls.specs.declared.fields.Callee.{Callee}
use Rattle.calls.proofs.Rooms.{by_room, room_given}
use Rattle.calls.proofs.SlotsAgree.{pointed, slots_room, slots-refused, slots-made}
use Rattle.calls.proofs.EnterAgrees.{room_in, room_in_lem}
use Rattle.calls.proofs.VariablesAgree.{ParametersRead, ParametersFit, slots-pointed, CalleeRead, FunctionFits}
use Rattle.calls.proofs.CallAgrees.{moved-sound, moved-seen, entry_at}
use Rattle.calls.proofs.CallAgrees as Call
use Rattle.image.specs.Limits.{AreBytes}

-- a good table that shows these variables
pub record Shows (vars : List ℕ) (vs : Vars) : Type 0 where
  pub good : Variables vars
  pub shown : variables_in vars ≡ vs

abbrev pub AllGood : List Value → Type 0
AllGood [] = Unit {0}
AllGood (g ∷ gs) = Good g × AllGood gs

-- ---- the variables

-- "Start clears all variables"
cleared-shown : (n : ℕ) → n ≡ 512 → Shows (replicate n 0) unset
unfolding variables_in variable_ok stored_ok
cleared-shown n e = record {
  good = record { counted = length-replicate n 0 ∙ e; each = λ x l. ap₂ stored_ok (zeros n (x * 2)) (zeros n (x * 2 + 1)) };
  shown = fun_ext (λ (x : ℕ). ap₂ stored_value (zeros n (x * 2)) (zeros n (x * 2 + 1)) ∙ stored-none 0);
}

-- "sets parameters in order"
values-shown : (s xs : List ℕ) (gs : List Value) (at : ℕ) (vars : List ℕ) → Variables vars → ParametersRead s at xs → ParametersFit xs → AllGood gs
    → Shows (values_set s (length xs) at (tags_of gs) (bits_of gs) vars) (set_values (variables_in vars) xs gs)
unfolding values_set set_values
values-shown s [] gs at vars good r f h = record { good = good; shown = refl }
values-shown s (x ∷ xs) [] at vars good r f h = record { good = good; shown = refl }
values-shown s (x ∷ xs) (g ∷ gs) at vars good (next, r, rs) (f, fs) (h, hs) =
    let set_first = set_variable vars x (found (tag g.kind) g.bits) in
    let first : values_set s (length (x ∷ xs)) at (tags_of (g ∷ gs)) (bits_of (g ∷ gs)) vars ≡ values_set s (length xs) next (tags_of gs) (bits_of gs) set_first =
    ap (λ (y : Field). values_set s (length xs) y.next (tags_of gs) (bits_of gs) (set_variable vars y.value (found (tag g.kind) g.bits))) r in
    let rest = values-shown s xs gs next set_first (variables-kept vars good x f g h) rs fs hs in
    record { good = rw first rest.good; shown = ap variables_in first ∙ rest.shown ∙ ap (λ vs. set_values vs xs gs) (variable-set vars good x f g) }

module _ (s : List ℕ) (f : Callee) (F : Function) (callee : CalleeRead s f F) (inside : FunctionFits F) (gs : List Value) (h : AllGood gs) where
  parameters-shown : (vs : List Value) → AllGood vs → (vars : List ℕ) → Variables vars
      → Shows (values_set s f.wanted f.parameters (tags_of vs) (bits_of vs) vars) (set_values (variables_in vars) F.parameters vs)
  parameters-shown vs g vars good = rw callee.wanted (values-shown s F.parameters vs f.parameters vars good callee.parameters inside.parameters g)

  flagged_shown : (vs : List Value) → AllGood vs → (vars : List ℕ) → Variables vars → Shows (flagged_set s f (tags_of vs) (bits_of vs) vars) (set_started (variables_in vars) F true vs)
  unfolding flagged_set set_started
  flagged_shown [] g vars good = record { good = good; shown = refl }
  flagged_shown (v ∷ vs) (g, gs') vars good =
      let rest = parameters-shown vs gs' (set_variable vars F.return_var (found (tag v.kind) v.bits)) (variables-kept vars good F.return_var inside.result v g) in
      rw callee.result
      (record { good = rest.good; shown = rest.shown ∙ ap (λ ws. set_values ws F.parameters vs) (variable-set vars good F.return_var inside.result v) })

  -- "takes the first argument as return pointer where flagged, sets parameters in order"
  by_flag : (b : Bool) → f.flag ≡ flag_number b → (vars : List ℕ) → Variables vars → Shows (started_set s f (tags_of gs) (bits_of gs) vars) (set_started (variables_in vars) F b gs)
  unfolding started_set set_started
  by_flag true e vars good = rw (ne_eqb f.flag 0 (λ z. omega arith)) (flagged_shown gs h vars good)
  by_flag false e vars good = rw (eq-eqb f.flag 0 e) (parameters-shown gs h vars good)

  -- what the believed machine makes of the variables before the slots
  abbrev started : (context : Value) → Vars
  started context = set_started (set_to unset F.context_var context) F F.return_pointer gs

  started_shown : (context : Value) → Good context → (n : ℕ) → n ≡ 512
      → Shows (started_set s f (tags_of gs) (bits_of gs) (set_variable (replicate n 0) f.context (found (tag context.kind) context.bits))) (started context)
  started_shown context g n e =
      let clear = cleared-shown n e in
      let set_first = set_variable (replicate n 0) F.context_var (found (tag context.kind) context.bits) in
      let rest = by_flag F.return_pointer callee.flag set_first (variables-kept (replicate n 0) clear.good F.context_var inside.context context g) in
      subst (λ (x : ℕ). Shows (started_set s f (tags_of gs) (bits_of gs) (set_variable (replicate n 0) x (found (tag context.kind) context.bits))) (started context)) (sym callee.context)
      (record {
        good = rest.good;
        shown = rest.shown
            ∙ ap (λ vs. set_started vs F F.return_pointer gs)
            (variable-set (replicate n 0) clear.good F.context_var inside.context context ∙ ap (λ vs. set_to vs F.context_var context) clear.shown);
      })

  variables-shown : (context : Value) → Good context → (g : ℕ) (vars : List ℕ) → length vars ≡ 512 → g + length F.slots ≤ 4096
      → Shows (variables_set s f (found (tag context.kind) context.bits) (tags_of gs) (bits_of gs) g vars) (pointed F.slots g (started context))
  unfolding variables_set
  variables-shown context good g vars e l =
      let first = started_shown context good (length vars) e in
      let before = started_set s f (tags_of gs) (bits_of gs) (set_variable (replicate (length vars) 0) f.context (found (tag context.kind) context.bits)) in
      let slots = slots-pointed s F.slots f.slots g before first.good callee.slots inside.slots l in
      subst (λ (n : ℕ). Shows (slots_pointed s n f.slots g before) (pointed F.slots g (started context))) (sym callee.count)
      (record { good = slots.good; shown = slots.shown ∙ ap (pointed F.slots g) first.shown })

-- ---- what is said of a start

-- "A refusal leaves state and lent buffers untouched"; else the tables after are sound, run, and show the believed machine's state
pub data StartAgrees (t : Tables) (vars : List ℕ) : Stepped → Answer (Machine Memory) → Type 0 where
  start-refused : (n : Refusal) → StartAgrees t vars (unstepped t vars n) (refused n)
  start-went : (after : Tables) (vs : List ℕ) → Sound after → Variables vs → after.registers.running ≡ 1 → after.registers.next ≤ 4096 → (AreBytes t.store → AreBytes after.store)
      → StartAgrees t vars
      (stepped (Ok (progress.Next after.registers)) after.store after.frames after.bounds after.pointers vs)
      (ok (record { memory = view after; running = true; place = after.registers.next; vars = variables_in vs }))

module _ (s : List ℕ) (t : Tables) (vars : List ℕ) (so : Sound t) (counted : length vars ≡ 512) (F : Function) (f : Callee) (callee : CalleeRead s f F) (inside : FunctionFits F)
    (context : Value) (good : Good context) (gs : List Value) (h : AllGood gs) (k : ℕ) (small : k ≤ 4096) where
  abbrev context_found : Found
  context_found = found (tag context.kind) context.bits

  abbrev begun : Stepped
  begun = begun_in t vars s k f context_found (tags_of gs) (bits_of gs)

  abbrev finish : Memory × Vars → Answer (Machine Memory)
  finish r = ok (record { memory = r.0; running = true; place = k; vars = r.1 })

  abbrev before : Vars
  before = set_started (set_to unset F.context_var context) F F.return_pointer gs

  abbrev Agreed : Type 0
  Agreed = StartAgrees t vars begun (make_slots believed F.slots (view t) before >>= finish)

  room_same : room_in s f t ≡ slots_room s f.slots F.slots t
  room_same = room_in_lem s f F.slots t so callee.count

  no_room : (n : Refusal) → room_in s f t ≡ Err n → Agreed
  unfolding begun_in ◌>>=◌
  no_room n e =
      subst₂ (λ (w : Stepped) (b : Answer (Machine Memory)). StartAgrees t vars w b)
      (sym (rw e))
      (sym (ap (λ o. o >>= finish) (slots-refused s F.slots f.slots t so callee.slots n (sym room_same ∙ e) before)))
      (start-refused n)

  roomy : room_in s f t ≡ Ok tt → Agreed
  unfolding begun_in ran_at ◌>>=◌
  roomy e =
      let made = slots-made s F.slots f.slots t so callee.slots (sym room_same ∙ e) in
      let g = room_given t.registers s f (length t.store) t.frames t.bounds (length t.pointers) e in
      let n = callee.count in
      let shows = variables-shown s f F callee inside gs h context good t.registers.pointers vars counted (omega arith) in
      let vs = variables_set s f context_found (tags_of gs) (bits_of gs) t.registers.pointers vars in
      let after = made.after in
      let slots : slots_made_of s f.count f.slots t ≡ entered (Ok after.registers) after.store after.frames after.bounds after.pointers =
      ap (λ j. slots_made_of s j f.slots t) n ∙ made.made' in
      subst₂ (λ (w : Stepped) (b : Answer (Machine Memory)). StartAgrees t vars w b)
      (sym (ap (λ (r : Result ⊤ Refusal). where_room r t vars (with_slots k (slots_made_of s f.count f.slots t) vs)) e ∙ ap (λ (w : Entered). with_slots k w vs) slots))
      (sym (ap (λ o. o >>= finish) (made.seen before) ∙ ap₂ (λ m ws. finish (m, ws)) (sym (moved-seen after 1 k)) (sym shows.shown)))
      (start-went (Call.moved after 1 k) vs (moved-sound after 1 k made.sound) shows.good refl small made.bytes)

  pub begin_in_agrees : Agreed
  begin_in_agrees = by_room (room_in s f t) roomy no_room

-- the function leads to its place
begun_in_lem : (s labels functions : List ℕ) (t : Tables) (vars : List ℕ) (number : ℕ) (context : Found) (ts bs : List ℕ) (F : Function) (k : ℕ)
    → CalleeRead s (callee_at s (place_in functions number)) F → F.entry < length labels → get_or labels F.entry 0 ≡ k
    → begun_in t vars s k (callee_at s (place_in functions number)) context ts bs ≡ begun_of t vars s labels functions number context ts bs
unfolding begun_of
begun_in_lem s labels functions t vars number context ts bs F k callee there label =
    let e : entry_of labels (callee_at s (place_in functions number)) ≡ Ok k = entry_at labels _ F k callee there label in
    sym (rw e)

same_start : {t : Tables} {vars : List ℕ} {w w' : Stepped} {b : Answer (Machine Memory)} → w ≡ w' → StartAgrees t vars w b → StartAgrees t vars w' b
same_start {t} {vars} {w} {w'} {b} e a = subst (λ (x : Stepped). StartAgrees t vars x b) e a

-- A start of a machine that is idle, of a function that there is, with as many values as it takes, none a Char that is no scalar value.
pub start_agrees : (P : Program) (s labels functions : List ℕ) (t : Tables) (vars : List ℕ) (place number : ℕ) (vs : Vars) (context : Value) (gs : List Value)
    → Sound t → length vars ≡ 512
    → ltb number (length P.functions) ≡ true → eqb (length gs) (length (function_at P number).parameters + flag_number (function_at P number).return_pointer) ≡ true → all_good (context ∷ gs) ≡ true
    → Good context → AllGood gs
    → CalleeRead s (callee_at s (place_in functions number)) (function_at P number) → FunctionFits (function_at P number)
    → (function_at P number).entry < length labels → get_or labels (function_at P number).entry 0 ≡ place_of P (function_at P number).entry → place_of P (function_at P number).entry ≤ 4096
    → StartAgrees t vars (begun_of t vars s labels functions number (found (tag context.kind) context.bits) (tags_of gs) (bits_of gs))
    (start believed P number context gs (record { memory = view t; running = false; place = place; vars = vs }))
unfolding start need
start_agrees P s labels functions t vars place number vs context gs so counted known many scalar good h callee inside there label small =
    let F = function_at P number in
    let k = place_of P F.entry in
    rw (known, many, scalar)
    (same_start (begun_in_lem s labels functions t vars number _ _ _ F k callee there label)
    (begin_in_agrees s t vars so counted F (callee_at s (place_in functions number)) callee inside context good gs h k small))
