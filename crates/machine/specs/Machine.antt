-- The machine: what a step, a start, a run and the host's calls do. Each answers, or refuses with 01's number by the first of
-- its checks that fails, and then nothing has changed.
use Rattle.std.specs.Prelude.{ℕ, zero, suc, ◌+◌, Bool, true, false, not, ◌&&◌, List, [], ◌∷◌, length, ltb, leb, eqb}
use Rattle.std.proofs.Math.Option.{Option, none, some}
use Rattle.std.proofs.Math.ListN.{get_elem?}
use Rattle.value.specs.declared.refusal.Refusal.{Refusal}
use Rattle.value.specs.Refusal as Refusal
use Rattle.value.specs.Answer.{Answer, ok, refused, need, found, pick, ◌>>=◌}
use Rattle.memory.specs.Live.{Live}
use Rattle.memory.specs.Memory.{Back}
use Rattle.value.specs.Value.{Value, kind_of, size, same, value, pointer, is_bad_char, add, sub, mul, div, mod', arithmetic, divide_floats, notted, negated, compare_ints, compare_floats, switch_on, bytes_of, from_bytes}
use Rattle.image.specs.Program.{Program, Operand, variable, literal, Slot, Branch, Declared, Function, function_at, code, place_of, Instruction, Jump, Switch, Assign, ConstantAddress, Call, Return, IntCmp', FloatCmp', Add, Sub, Mul, Div, Mod, FDiv, Not, Negate, Offset, Initialize, Write, Read, Copy, Drop}
use Rattle.image.specs.Written.{flag_number}

-- What the machine asks of a memory. A new pointer's number is how many were given out before it.
pub record Memories (M : Type 0) : Type 0 where
  pub none_yet : M
  pub given : M → ℕ
  pub allocate : M → (size : ℕ) → Answer M
  pub address : M → (constant : ℕ) → Answer M
  pub offset : M → (pointer by : ℕ) → Answer M
  pub read : (constants : List (List ℕ)) → M → (pointer size : ℕ) → Answer (List ℕ)
  pub write : M → (pointer : ℕ) → List ℕ → Answer M
  pub push : M → Back → Answer M
  pub pop : M → Option (Back × M)  -- none at the root
  pub listing : M → List Live

-- 256 variables, each unset or a value
abbrev pub Vars : Type 0
Vars = ℕ → Option Value

abbrev pub unset : Vars
unset x = none

abbrev pub set_to : Vars → ℕ → Value → Vars
set_to vs x v y = pick (eqb y x) (some v) (vs y)

pub record Machine (M : Type 0) : Type 0 where
  pub memory : M
  pub running : Bool
  pub place : ℕ
  pub vars : Vars

-- ---- operands

-- "21 variable never set"
unfoldable pub value_of : Vars → Operand → Answer Value
value_of vs (variable x) = found Refusal.never_set (vs x)
value_of vs (literal v) = ok v

-- "22 wrong kinds for the instruction": where a pointer is asked for, the number of one
unfoldable pub as_pointer : Value → Answer ℕ
as_pointer v = need (same v.kind pointer) Refusal.wrong_kinds (ok v.bits)

unfoldable pub pointer_of : Vars → Operand → Answer ℕ
pointer_of vs x = do
  v ← value_of vs x
  as_pointer v

-- set from an operand, if there is one
unfoldable pub set_from : Vars → ℕ → Option Operand → Answer Vars
set_from vs x none = ok vs
set_from vs x (some o) = do
  v ← value_of vs o
  ok (set_to vs x v)

unfoldable pub as_variable : Option ℕ → Option Operand
as_variable none = none
as_variable (some x) = some (variable x)

-- "the arguments, each set before the next is read. Spare arguments are not evaluated; missing ones leave the old value."
unfoldable pub set_arguments : Vars → List ℕ → List Operand → Answer Vars
set_arguments vs [] os = ok vs
set_arguments vs (x ∷ xs) [] = ok vs
set_arguments vs (x ∷ xs) (o ∷ os) = do
  v ← value_of vs o
  set_arguments (set_to vs x v) xs os

-- no Char among them that is no scalar value
unfoldable pub all_good : List Value → Bool
all_good [] = true
all_good (v ∷ vs) = not (is_bad_char v) && all_good vs

-- the values of a start, in order
unfoldable pub set_values : Vars → List ℕ → List Value → Vars
set_values vs [] gs = vs
set_values vs (x ∷ xs) [] = vs
set_values vs (x ∷ xs) (g ∷ gs) = set_values (set_to vs x g) xs gs

-- "the first branch that matches"
unfoldable pub choose : ℕ → List Branch → (default : ℕ) → ℕ
choose n [] default = default
choose n (b ∷ bs) default = pick (eqb n b.number) b.label (choose n bs default)

unfoldable pub to_of : Option Declared → Option ℕ
to_of none = none
to_of (some d) = some d.to

-- a value, if there is an operand
unfoldable pub value_if : Vars → Option Operand → Answer (Option Value)
value_if vs none = ok none
value_if vs (some o) = do
  v ← value_of vs o
  ok (some v)

-- "32 value returned where the call had no place"; "With none returned the call's variable keeps its value."
unfoldable pub set_returned : Vars → Option ℕ → Option Value → Answer Vars
set_returned vs to none = ok vs
set_returned vs none (some v) = refused Refusal.no_return_place
set_returned vs (some x) (some v) = ok (set_to vs x v)

-- "takes the first argument as return pointer where flagged, sets parameters in order"
unfoldable pub set_started : Vars → Function → (flagged : Bool) → List Value → Vars
set_started vs F false gs = set_values vs F.parameters gs
set_started vs F true [] = vs  -- never: 14 came first
set_started vs F true (g ∷ gs) = set_values (set_to vs F.return_var g) F.parameters gs

-- ---- the step

-- after a step the machine goes on, or the run has ended with a value or none
pub data Stepped (M : Type 0) : Type 0 where
  went : Machine M → Stepped M
  ended : Option Value → Machine M → Stepped M

-- "The answer is returned (a value or none), paused, or refused, with the count"
pub data Outcome : Type 0 where
  returned : Option Value → Outcome
  paused : Outcome
  stopped : Refusal → Outcome

pub record Ran (M : Type 0) : Type 0 where
  pub outcome : Outcome
  pub count : ℕ
  pub machine : Machine M

module _ {M : Type 0} (mem : Memories M) where
  -- on to the next place, with this memory and these variables
  abbrev pub onward : Machine M → M → Vars → Answer (Stepped M)
  onward s m vs = ok (went (record { memory = m; running = true; place = s.place + 1; vars = vs }))

  abbrev pub jump : Machine M → ℕ → Answer (Stepped M)
  jump s place = ok (went (record { memory = s.memory; running = true; place = place; vars = s.vars }))

  -- `to` is set to a value, and nothing else happens
  abbrev pub sets : Machine M → ℕ → Value → Answer (Stepped M)
  sets s to v = onward s s.memory (set_to s.vars to v)

  -- "Operands left to right, 21 each as read"; then `to` is set to what f makes of them
  abbrev pub sets₁ : Machine M → ℕ → (Value → Answer Value) → Operand → Answer (Stepped M)
  sets₁ s to f x = do
    a ← value_of s.vars x
    v ← f a
    sets s to v

  abbrev pub sets₂ : Machine M → ℕ → (Value → Value → Answer Value) → Operand → Operand → Answer (Stepped M)
  sets₂ s to f x y = do
    a ← value_of s.vars x
    b ← value_of s.vars y
    v ← f a b
    sets s to v

  -- `to` is set to the pointer that came with this memory
  abbrev pub points : Machine M → ℕ → M → Answer (Stepped M)
  points s to m = onward s m (set_to s.vars to (value pointer (mem.given s.memory)))

  -- a function's slots, zero-filled, in order, and the variable of each set to its pointer
  unfoldable pub make_slots : List Slot → M → Vars → Answer (M × Vars)
  make_slots [] m vs = ok (m, vs)
  make_slots (x ∷ xs) m vs = do
    m' ← mem.allocate m x.size
    make_slots xs m' (set_to vs x.var (value pointer (mem.given m)))

  -- At root the run ends, and "next place, variables and root memory stay". Else the frame's own place and variable take over.
  unfoldable pub leave : Machine M → Option Value → Option (Back × M) → Answer (Stepped M)
  leave s v none = ok (ended v (record { memory = s.memory; running = false; place = s.place; vars = s.vars }))
  leave s v (some r) = do
    let (back, m) = r
    vs ← set_returned s.vars back.var v
    ok (went (record { memory = m; running = true; place = back.place; vars = vs }))

  unfoldable pub execute : Program → Machine M → Instruction → Answer (Stepped M)
  -- 0: "A label is a block's position"
  execute P s (Jump label) = jump s (place_of P label)
  -- 1: "Switch takes Bool, U8, U16, U32; the first branch that matches."
  execute P s (Switch x branches default) = do
    v ← value_of s.vars x
    n ← switch_on v
    jump s (place_of P (choose n branches default))
  -- 2: "Assign and Read ignore declared kinds of `to`."
  execute P s (Assign to x type) = do
    v ← value_of s.vars x
    sets s to v
  -- 3: "Allocating checks 37, 38, 39; ConstantAddress 39."
  execute P s (ConstantAddress to k) = do
    m ← mem.address s.memory k
    points s to m
  -- 4: "Call: 35, 36; push ..; then the callee's slots, the return pointer, the context, the arguments, each set before the next is read."
  execute P s (Call to context f arguments return_pointer) = do
    let F = function_at P f
    m ← mem.push s.memory (record { place = s.place + 1; var = to_of to })
    (m₁, vs₁) ← make_slots F.slots m s.vars
    vs₂ ← set_from vs₁ F.return_var (as_variable return_pointer)
    vs₃ ← set_from vs₂ F.context_var context
    vs₄ ← set_arguments vs₃ F.parameters arguments
    ok (went (record { memory = m₁; running = true; place = place_of P F.entry; vars = vs₄ }))
  -- 5: "Return: operand; at root it ends the run; else 32, then pop."
  execute P s (Return x) = do
    v ← value_if s.vars x
    leave s v (mem.pop s.memory)
  -- 6, 7: "Eq and Ne of both comparisons: same kind, one of Bool, U8, ..; else 22. .. Ordered .. comparisons take any widths of their family"
  execute P s (IntCmp' to cmp x y) = sets₂ s to (compare_ints cmp) x y
  execute P s (FloatCmp' to cmp x y) = sets₂ s to (compare_floats cmp) x y
  -- 8 to 12: "same integer kind both sides, else 22; then 24; then 23. .. The signed flag is ignored."
  execute P s (Add to x y) = sets₂ s to (arithmetic add) x y
  execute P s (Sub to x y) = sets₂ s to (arithmetic sub) x y
  execute P s (Mul to x y) = sets₂ s to (arithmetic mul) x y
  execute P s (Div to signed x y) = sets₂ s to (arithmetic div) x y
  execute P s (Mod to signed x y) = sets₂ s to (arithmetic mod') x y
  -- 13: "FDiv: two F32 or two F64, rounded once to nearest, ties to even"
  execute P s (FDiv to x y) = sets₂ s to divide_floats x y
  -- 14: "Not: its Bool, unchanged, as in the Rust"
  execute P s (Not to x) = sets₁ s to notted x
  -- 15: "Negate: signed integers and floats; a float's sign bit flips."
  execute P s (Negate to x) = sets₁ s to negated x
  -- 16: "Offset: 25, 26, 33, 39; no frame test."
  execute P s (Offset to x d) = do
    p ← pointer_of s.vars x
    m ← mem.offset s.memory p d
    points s to m
  -- 17: "Initialize: 34, then allocate."
  execute P s (Initialize to n bytes) = need (leb (length bytes) n) Refusal.bytes_exceed_size (do
    m ← mem.allocate s.memory n
    m' ← mem.write m (mem.given s.memory) bytes
    points s to m')
  -- 18: "Write and Copy test the first for being a pointer (22) before the second is read."
  execute P s (Write x y) = do
    p ← pointer_of s.vars x
    v ← value_of s.vars y
    m ← mem.write s.memory p (bytes_of v)
    onward s m s.vars
  -- 19: "Local access: 25, 26, 27, 28, 29, 30, then 31. Constant read: 25, 40, 29, 31, no alignment."
  execute P s (Read to x type) = do
    p ← pointer_of s.vars x
    bytes ← mem.read P.constants s.memory p (size (kind_of type))
    v ← from_bytes type bytes
    sets s to v
  -- 20: "Copy checks its read in full, then its write; bytes as before the copy."
  execute P s (Copy x y n) = do
    to ← pointer_of s.vars x
    from ← pointer_of s.vars y
    bytes ← mem.read P.constants s.memory from n
    m ← mem.write s.memory to bytes
    onward s m s.vars
  -- 21: "Drop: operand; does nothing, evaluates nothing"
  execute P s (Drop x) = onward s s.memory s.vars

  -- "20 no instruction at this place"
  unfoldable pub step : Program → Machine M → Answer (Stepped M)
  step P s = do
    i ← found Refusal.no_instruction (get_elem? (code P) s.place)
    execute P s i

  -- ---- the run

  -- what follows from a step of s, `done` steps after the first, where `on` is the rest of the run
  unfoldable pub after : Machine M → (done : ℕ) → Answer (Stepped M) → (Machine M → Ran M) → Ran M
  after s done (ok (went s')) on = on s'
  after s done (ok (ended v s')) on = record { outcome = returned v; count = done + 1; machine = s' }
  after s done (refused n) on = record { outcome = stopped n; count = done; machine = s }

  -- "Before each instruction: if steps done equal the budget, it is paused. The last Return is a step; a refused instruction is none."
  unfoldable pub run_from : Program → (left done : ℕ) → Machine M → Ran M
  run_from P zero done s = record { outcome = paused; count = done; machine = s }
  run_from P (suc left) done s = after s done (step P s) (λ s'. run_from P left (done + 1) s')

  -- "12 run on an idle one"
  unfoldable pub run : Program → (budget : ℕ) → Machine M → Answer (Ran M)
  run P budget s = need s.running Refusal.idle (ok (run_from P budget 0 s))

  -- one step, asked for by the host
  unfoldable pub step_once : Program → Machine M → Answer (Stepped M)
  step_once P s = need s.running Refusal.idle (step P s)

  -- ---- the host

  -- "Fresh memory is idle: root frame with no allocation, .. next place 0, no pointer, no variable set."
  unfoldable pub fresh : Machine M
  fresh = record { memory = mem.none_yet; running = false; place = 0; vars = unset }

  abbrev pub with_memory : Machine M → M → Machine M
  with_memory s m = record { memory = m; running = s.running; place = s.place; vars = s.vars }

  -- "The host may allocate (in the top frame), write and read bytes by pointer number."
  unfoldable pub host_allocate : (size : ℕ) → Machine M → Answer (Machine M)
  host_allocate n s = do
    m ← mem.allocate s.memory n
    ok (with_memory s m)

  unfoldable pub host_write : (pointer : ℕ) → List ℕ → Machine M → Answer (Machine M)
  host_write p bytes s = do
    m ← mem.write s.memory p bytes
    ok (with_memory s m)

  unfoldable pub host_read : Program → (pointer size : ℕ) → Machine M → Answer (List ℕ)
  host_read P p n s = mem.read P.constants s.memory p n

  -- "41 list table shorter than the pointers"
  unfoldable pub host_list : (room : ℕ) → Machine M → Answer (List Live)
  host_list room s = need (leb (mem.given s.memory) room) Refusal.short_table (ok (mem.listing s.memory))

  -- "Order: image, 10, 11 or 12, 13, 14, 15, then room". "Start clears all variables, sets the context, takes the first argument as return
  -- pointer where flagged, sets parameters in order, then makes slots, zero-filled, in order; the next place is the entry label's and the machine runs."
  unfoldable pub start : Program → (function : ℕ) → (context : Value) → List Value → Machine M → Answer (Machine M)
  start P f context gs s =
      let F = function_at P f in
      need (not s.running) Refusal.running
      (need (ltb f (length P.functions)) Refusal.no_function
      (need (eqb (length gs) (length F.parameters + flag_number F.return_pointer)) Refusal.wrong_arguments
      (need (all_good (context ∷ gs)) Refusal.not_scalar (do
        (m, vs) ← make_slots F.slots s.memory (set_started (set_to unset F.context_var context) F F.return_pointer gs)
        ok (record { memory = m; running = true; place = place_of P F.entry; vars = vs })))))
