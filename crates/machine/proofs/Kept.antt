-- What a machine holds, and each operation of its memory keeps, is kept by every ask of an accepted program. By cases of the ask and of the
-- instruction, each a chain of answers that keep it.
use Prim.Native.Nat.{ℕ, zero, suc, ◌+◌, ◌^◌, ◌≤◌, ◌<◌}
use native.Mathlib.Nat.{le_refl, le_trans}
use native.Mathlib.Omega.{arith}
use mathlib.Core.Bool.{Bool, true, false, not, ◌&&◌, ◌||◌}
use mathlib.Core.Path.{◌≡◌, refl, subst}
use mathlib.Core.List.{List, [], ◌∷◌, flatten}
use mathlib.Core.Option.{Option, none, some, none-ne-some}
use lib.ListN.{length, take, get_elem?, length-append}
use lib.Dec.{T, leb, eqb, ltb→lt, leb→le, lt→ltb, le→leb}
use mir.Facts.{and_yes, yes_and, T_not-not}
use Rattle.value.specs.declared.refusal.Refusal.{Refusal}
use Rattle.value.specs.Refusal.{no_instruction}
use Rattle.value.specs.Answer.{Answer, ok, refused, found, ◌>>=◌, pick}
use Rattle.value.specs.Value.{Value, value, Kind, bool, u8, u16, u32, u64, i8, i16, i32, i64, f32, f64, char, asn, pointer, tag, same, kind_of, size, is_scalar, is_bad_char, bytes_of}
use Rattle.value.specs.Tags.{holds}
use Rattle.image.specs.Program.{Program, Operand, variable, literal, Slot, Declared, Function, function_at, code, place_of, Instruction, Jump, Switch, Assign, ConstantAddress, Call, Return, IntCmp', FloatCmp', Add, Sub, Mul, Div, Mod, FDiv, Not, Negate, Offset, Initialize, Write, Read, Copy, Drop}
use Rattle.memory.specs.Memory.{Back}
use Rattle.memory.specs.Live.{Live}
use Rattle.machine.specs.Machine.{Memories, Vars, unset, set_to, Machine, Stepped, went, ended, Ran, value_of, set_from, set_arguments, set_values, choose, as_variable, to_of, value_if, set_returned, set_started, all_good, make_slots, sets₁, sets₂, leave, execute, step, after, run_from, run, step_once, host_allocate, host_write, start}
use Rattle.memory.specs.Sound.{good_var, good_back}
use Rattle.machine.specs.Sound.{all, are_bytes}
use Rattle.machine.specs.Accepted.{given, good_operand, good_optional, good_to, good_instruction, accepted, accepted_ask}
use Rattle.machine.specs.Asks.{Ask, to_allocate, to_write, to_read, to_start, to_step, to_run, to_list, Reply, changes, shows, steps, goes, lays, ask}
use Rattle.machine.proofs.Values.{Keeps, kept, no_answer, keeps-need, keeps_then, keeps-after, Good, pointer-good, arithmetic-good, divided_good, stored_bytes, Bytes, negated-good, notted-good, compared_ints_good, compared_floats_good, read-good}

-- ---- programs

pub flatten_front : (label : ℕ) (bs : List (List Instruction)) → length (flatten (take label bs)) ≤ length (flatten bs)
unfolding flatten
flatten_front zero bs = omega arith
flatten_front (suc n) [] = le_refl _
flatten_front (suc n) (b ∷ bs) = rw (length-append b (flatten (take n bs)), length-append b (flatten bs)) (omega (arith, flatten_front n bs))

-- an instruction stands at its place, and is one of those that were accepted
instruction-at : (f : Instruction → Bool) (is : List Instruction) (k : ℕ) (i : Instruction) → T (all f is) → get_elem? is k ≡ some i → (k < length is) × T (f i)
unfolding all
instruction-at f [] k i t e = absurd (none-ne-some _ e)
instruction-at f (x ∷ is) zero i t e =
    let same : x ≡ i = cc in
    (omega arith, subst (λ (y : Instruction). T (f y)) same (and_yes (f x) (all f is) t).0)
instruction-at f (x ∷ is) (suc k) i t e = let r = instruction-at f is k i (and_yes (f x) (all f is) t).1 e in (omega (arith, r.0), r.1)

-- ---- variables

abbrev pub GoodIf : Option Value → Type 0
GoodIf none = Unit {0}
GoodIf (some v) = Good v

abbrev pub GoodVars : Vars → Type 0
GoodVars vs = (x : ℕ) → x < 256 → GoodIf (vs x)

set-good : (vs : Vars) (x : ℕ) (v : Value) → GoodVars vs → Good v → GoodVars (set_to vs x v)
set-good vs x v g h y l = go (eqb y x)
  where
    go : (b : Bool) → GoodIf (pick b (some v) (vs y))
    go true = h
    go false = g y l

found-good : (n : Refusal) (o : Option Value) → GoodIf o → Keeps Good (found n o)
unfolding found
found-good n none t = no_answer
found-good n (some v) t = kept t

returned-good : (vs : Vars) → GoodVars vs → (to : Option ℕ) (v : Option Value) → GoodIf v → Keeps GoodVars (set_returned vs to v)
unfolding set_returned
returned-good vs g to none t = kept g
returned-good vs g none (some v) t = no_answer
returned-good vs g (some x) (some v) t = kept (set-good vs x v g t)

-- a value that an entry takes, and that is no bad Char, is one
given-good : (v : Value) → T (given v) → T (not (is_bad_char v)) → Good v
unfolding given is_bad_char holds tag
given-good v t u = go v.kind t u
  where
    go : (k : Kind) → T (same k char || holds k v.bits) → T (not (same k char && not (is_scalar v.bits))) → T (holds k v.bits)
    go bool t u = t
    go u8 t u = t
    go u16 t u = t
    go u32 t u = t
    go u64 t u = t
    go i8 t u = t
    go i16 t u = t
    go i32 t u = t
    go i64 t u = t
    go f32 t u = t
    go f64 t u = t
    go asn t u = t
    go pointer t u = t
    go char t u = T_not-not (is_scalar v.bits) u

values-good : (vs : Vars) → GoodVars vs → (xs : List ℕ) (gs : List Value) → T (all given gs) → T (all_good gs) → GoodVars (set_values vs xs gs)
unfolding set_values all_good all
values-good vs g [] gs a t = g
values-good vs g (x ∷ xs) [] a t = g
values-good vs g (x ∷ xs) (v ∷ gs) a t =
    let b = and_yes (given v) (all given gs) a in
    let u = and_yes (not (is_bad_char v)) (all_good gs) t in
    values-good (set_to vs x v) (set-good vs x v g (given-good v b.0 u.0)) xs gs b.1 u.1

started_good : (vs : Vars) → GoodVars vs → (F : Function) (flagged : Bool) (gs : List Value) → T (all given gs) → T (all_good gs) → GoodVars (set_started vs F flagged gs)
unfolding set_started all_good all
started_good vs g F false gs a t = values-good vs g F.parameters gs a t
started_good vs g F true [] a t = g
started_good vs g F true (v ∷ gs) a t =
    let b = and_yes (given v) (all given gs) a in
    let u = and_yes (not (is_bad_char v)) (all_good gs) t in
    values-good (set_to vs F.return_var v) (set-good vs F.return_var v g (given-good v b.0 u.0)) F.parameters gs b.1 u.1

module _ (n : ℕ) (few : n ≤ 256) where
  value-good : (vs : Vars) → GoodVars vs → (o : Operand) → T (good_operand n o) → Keeps Good (value_of vs o)
  unfolding good_operand value_of
  value-good vs g (variable x) t = found-good _ (vs x) (g x (le_trans (ltb→lt x n t) few))
  value-good vs g (literal v) t = kept t

  set_from_good : (vs : Vars) → GoodVars vs → (x : ℕ) (o : Option Operand) → T (good_optional n o) → Keeps GoodVars (set_from vs x o)
  unfolding good_optional set_from
  set_from_good vs g x none t = kept g
  set_from_good vs g x (some o) t = keeps_then Good GoodVars (value-good vs g o t) (λ v h. kept (set-good vs x v g h))

  arguments-good : (vs : Vars) → GoodVars vs → (xs : List ℕ) (os : List Operand) → T (all (good_operand n) os) → Keeps GoodVars (set_arguments vs xs os)
  unfolding all set_arguments
  arguments-good vs g [] os t = kept g
  arguments-good vs g (x ∷ xs) [] t = kept g
  arguments-good vs g (x ∷ xs) (o ∷ os) t =
      let u = and_yes (good_operand n o) (all (good_operand n) os) t in
      keeps_then Good GoodVars (value-good vs g o u.0) (λ v h. arguments-good (set_to vs x v) (set-good vs x v g h) xs os u.1)

  value_if_good : (vs : Vars) → GoodVars vs → (o : Option Operand) → T (good_optional n o) → Keeps GoodIf (value_if vs o)
  unfolding good_optional value_if
  value_if_good vs g none t = kept tt
  value_if_good vs g (some o) t = keeps_then Good GoodIf (value-good vs g o t) (λ v h. kept h)

  to-good : (to : Option Declared) → T (good_to n to) → T (good_var (to_of to))
  unfolding good_to good_var to_of
  to-good none t = tt
  to-good (some d) t = lt→ltb d.to 256 (le_trans (ltb→lt d.to n t) few)

-- ---- what each operation of a memory keeps

-- at the root the run ends; else its frame had a good return, and what is left holds too
pub data Popping {M : Type 0} (I : Bool → M → Type 0) (m : M) : Option (Back × M) → Type 0 where
  at_root : I false m → Popping I m none
  back_to_lem : {back : Back} {m' : M} → T (good_back back) → I true m' → Popping I m (some (back, m'))

-- `I running m`: what is held of a memory while the machine runs or is idle
pub record Kept {M : Type 0} (mem : Memories M) (I : Bool → M → Type 0) : Type 0 where
  pub started : {m : M} → I false m → I true m
  pub allocate : {r : Bool} {m : M} → I r m → (n : ℕ) → Keeps (I r) (mem.allocate m n)
  pub address : {r : Bool} {m : M} → I r m → (k : ℕ) → Keeps (I r) (mem.address m k)
  pub offset : {r : Bool} {m : M} → I r m → (p d : ℕ) → Keeps (I r) (mem.offset m p d)
  pub given : {r : Bool} {m : M} → I r m → mem.given m < 2 ^ 64
  pub read : {r : Bool} {m : M} → I r m → (constants : List (List ℕ)) → T (all are_bytes constants) → (p n : ℕ) → Keeps (Bytes n) (mem.read constants m p n)
  pub write : {r : Bool} {m : M} → I r m → (p : ℕ) (bs : List ℕ) → T (are_bytes bs) → Keeps (I r) (mem.write m p bs)
  pub push : {m : M} → I true m → (back : Back) → T (good_back back) → Keeps (I true) (mem.push m back)
  pub pop : {m : M} → I true m → Popping I m (mem.pop m)

module _ {M : Type 0} {mem : Memories M} {I : Bool → M → Type 0} (K : Kept mem I) where
  pub record Held (s : Machine M) : Type 0 where
    pub memory : I s.running s.memory
    pub place : s.place ≤ 4096
    pub vars : GoodVars s.vars

  -- a machine that goes on runs
  pub data HeldStep : Stepped M → Type 0 where
    held-went : {s : Machine M} → T s.running → Held s → HeldStep (went s)
    held-ended : {v : Option Value} {s : Machine M} → Held s → HeldStep (ended v s)

  pub record HeldSlots (x : M × Vars) (r : Bool) : Type 0 where
    pub memory : I r x.0
    pub vars : GoodVars x.1

  slots-held : (r : Bool) (xs : List Slot) {m : M} (vs : Vars) → I r m → GoodVars vs → Keeps (λ x. HeldSlots x r) (make_slots mem xs m vs)
  unfolding make_slots
  slots-held r [] vs i g = kept (record { memory = i; vars = g })
  slots-held r (x ∷ xs) {m} vs i g =
      keeps_then (I r) (λ y. HeldSlots y r) (K.allocate i x.size) (λ m' i'. slots-held r xs _ i' (set-good vs x.var _ g (pointer-good (mem.given m) (K.given i))))

  module _ (P : Program) (good : T (accepted P)) where
    few : P.variables ≤ 256
    unfolding accepted
    few = leb→le _ 256 (and_yes (leb P.variables 256) _ good).0

    short : length (code P) ≤ 4096
    unfolding accepted
    short = leb→le (length (code P)) 4096 (and_yes (leb (length (code P)) 4096) _ (and_yes (leb P.variables 256) _ good).1).0

    rest_good : T (all are_bytes P.constants) × T (all (good_instruction P.variables) (code P))
    unfolding accepted
    rest_good = and_yes (all are_bytes P.constants) _ (and_yes (leb (length (code P)) 4096) _ (and_yes (leb P.variables 256) _ good).1).1

    label-fits : (label : ℕ) → place_of P label ≤ 4096
    label-fits label = le_trans (flatten_front label P.blocks) short

    -- what a machine that runs, at an instruction, holds
    module _ (s : Machine M) (i : I true s.memory) (here : s.place < 4096) (g : GoodVars s.vars) where
      onward-held : {m : M} (vs : Vars) → I true m → GoodVars vs → HeldStep (went (record { memory = m; running = true; place = s.place + 1; vars = vs }))
      onward-held vs j h = let next : s.place + 1 ≤ 4096 = omega arith in held-went tt (record { memory = j; place = next; vars = h })

      jump-held : (label : ℕ) → HeldStep (went (record { memory = s.memory; running = true; place = place_of P label; vars = s.vars }))
      jump-held label = held-went tt (record { memory = i; place = label-fits label; vars = g })

      sets-held : (to : ℕ) (v : Value) → Good v → HeldStep (went (record { memory = s.memory; running = true; place = s.place + 1; vars = set_to s.vars to v }))
      sets-held to v h = onward-held _ i (set-good s.vars to v g h)

      points-held : (to : ℕ) {m : M} → I true m → HeldStep (went (record { memory = m; running = true; place = s.place + 1; vars = set_to s.vars to (value pointer (mem.given s.memory)) }))
      points-held to j = onward-held _ j (set-good s.vars to _ g (pointer-good (mem.given s.memory) (K.given i)))

      operand : (o : Operand) → T (good_operand P.variables o) → Keeps Good (value_of s.vars o)
      operand o t = value-good P.variables few s.vars g o t

      sets₁-held : (to : ℕ) (f : Value → Answer Value) (x : Operand) → ((v : Value) → Good v → Keeps Good (f v)) → T (good_operand P.variables x) → Keeps HeldStep (sets₁ mem s to f x)
      sets₁-held to f x k t = keeps_then Good HeldStep (operand x t) (λ a h. keeps_then Good HeldStep (k a h) (λ v h'. kept (sets-held to v h')))

      sets₂-held : (to : ℕ) (f : Value → Value → Answer Value) (x y : Operand) → ((v w : Value) → Keeps Good (f v w)) → Keeps HeldStep (sets₂ mem s to f x y)
      sets₂-held to f x y k = keeps-after HeldStep _ (λ a. keeps-after HeldStep _ (λ b. keeps_then Good HeldStep (k a b) (λ v h. kept (sets-held to v h))))

      leave-held : (v : Option Value) → GoodIf v → {a : Option (Back × M)} → Popping I s.memory a → Keeps HeldStep (leave mem s v a)
      unfolding leave good_back
      leave-held v t (at_root j) = let stays : s.place ≤ 4096 = omega arith in kept (held-ended (record { memory = j; place = stays; vars = g }))
      leave-held v t (back_to_lem {back} b j) =
          keeps_then GoodVars HeldStep (returned-good s.vars g back.var v t)
          (λ vs h. kept (held-went tt (record { memory = j; place = leb→le back.place 4096 (and_yes (good_var back.var) (leb back.place 4096) b).1; vars = h })))

      execute-held : (x : Instruction) → T (good_instruction P.variables x) → Keeps HeldStep (execute mem P s x)
      unfolding execute good_instruction good_back
      execute-held (Jump label) t = kept (jump-held label)
      execute-held (Switch x branches default) t = keeps-after HeldStep _ (λ v. keeps-after HeldStep _ (λ n. kept (jump-held (choose n branches default))))
      execute-held (Assign to x type) t = keeps_then Good HeldStep (operand x t) (λ v h. kept (sets-held to v h))
      execute-held (ConstantAddress to k) t = keeps_then (I true) HeldStep (K.address i k) (λ m j. kept (points-held to j))
      execute-held (Call to context f arguments return_pointer) t =
          let t₁ = and_yes (good_to P.variables to) _ t in
          let t₂ = and_yes (good_optional P.variables (as_variable return_pointer)) _ t₁.1 in
          let t₃ = and_yes (good_optional P.variables context) _ t₂.1 in
          let F : Function = function_at P f in
          keeps_then (I true) HeldStep
          (K.push i _ (yes_and (good_var (to_of to)) (leb (s.place + 1) 4096) (to-good P.variables few to t₁.0) (le→leb (s.place + 1) 4096 (omega arith))))
          (λ m j. keeps_then (λ y. HeldSlots y true) HeldStep (slots-held true F.slots s.vars j g)
          (λ x₁ h₁. keeps_then GoodVars HeldStep (set_from_good P.variables few x₁.1 h₁.vars F.return_var (as_variable return_pointer) t₂.0)
          (λ vs₂ g₂. keeps_then GoodVars HeldStep (set_from_good P.variables few vs₂ g₂ F.context_var context t₃.0)
          (λ vs₃ g₃. keeps_then GoodVars HeldStep (arguments-good P.variables few vs₃ g₃ F.parameters arguments t₃.1)
          (λ vs₄ g₄. kept (held-went tt (record { memory = h₁.memory; place = label-fits F.entry; vars = g₄ })))))))
      execute-held (Return x) t = keeps_then GoodIf HeldStep (value_if_good P.variables few s.vars g x t) (λ v h. leave-held v h (K.pop i))
      execute-held (IntCmp' to cmp x y) t = sets₂-held to _ x y (compared_ints_good cmp)
      execute-held (FloatCmp' to cmp x y) t = sets₂-held to _ x y (compared_floats_good cmp)
      execute-held (Add to x y) t = sets₂-held to _ x y (arithmetic-good _)
      execute-held (Sub to x y) t = sets₂-held to _ x y (arithmetic-good _)
      execute-held (Mul to x y) t = sets₂-held to _ x y (arithmetic-good _)
      execute-held (Div to signed x y) t = sets₂-held to _ x y (arithmetic-good _)
      execute-held (Mod to signed x y) t = sets₂-held to _ x y (arithmetic-good _)
      execute-held (FDiv to x y) t = sets₂-held to _ x y divided_good
      execute-held (Not to x) t = sets₁-held to _ x notted-good t
      execute-held (Negate to x) t = sets₁-held to _ x (λ v h. negated-good v) t
      execute-held (Offset to x d) t = keeps-after HeldStep _ (λ p. keeps_then (I true) HeldStep (K.offset i p d) (λ m j. kept (points-held to j)))
      execute-held (Initialize to n bytes) t = keeps-need HeldStep _ _ (λ u. keeps_then (I true) HeldStep (K.allocate i n)
          (λ m j. keeps_then (I true) HeldStep (K.write j _ bytes t) (λ m' j'. kept (points-held to j'))))
      execute-held (Write x y) t = keeps-after HeldStep _ (λ p. keeps-after HeldStep _ (λ v. keeps_then (I true) HeldStep (K.write i p (bytes_of v) (stored_bytes v)) (λ m j. kept (onward-held s.vars j g))))
      execute-held (Read to x type) t = keeps-after HeldStep _ (λ p. keeps_then (Bytes (size (kind_of type))) HeldStep (K.read i P.constants rest_good.0 p (size (kind_of type)))
          (λ bytes b. keeps_then Good HeldStep (read-good type bytes b) (λ v h. kept (sets-held to v h))))
      execute-held (Copy x y n) t = keeps-after HeldStep _ (λ to. keeps-after HeldStep _ (λ from. keeps_then (Bytes n) HeldStep (K.read i P.constants rest_good.0 from n) (λ bytes b.
          keeps_then (I true) HeldStep (K.write i to bytes b.1) (λ m j. kept (onward-held s.vars j g)))))
      execute-held (Drop x) t = kept (onward-held s.vars i g)

    pub step-held : {s : Machine M} → T s.running → Held s → Keeps HeldStep (step mem P s)
    unfolding step found ◌>>=◌
    step-held {s} r h = go (get_elem? (code P) s.place) refl
      where
        go : (x : Option Instruction) → get_elem? (code P) s.place ≡ x → Keeps HeldStep (found no_instruction x >>= λ y. execute mem P s y)
        go none e = no_answer
        go (some x) e =
            let there = instruction-at (good_instruction P.variables) (code P) s.place x rest_good.1 e in
            execute-held s (runs s.running r h.memory) (le_trans there.0 short) h.vars x there.1
          where
            runs : (b : Bool) → T b → I b s.memory → I true s.memory
            runs true t j = j
            runs false t j = absurd t

  -- ---- runs, starts and asks

  pub record HeldRun (r : Ran M) : Type 0 where
    pub machine : Held r.machine

  module _ (P : Program) (good : T (accepted P)) where
    after-held : {s : Machine M} → Held s → (done : ℕ) {a : Answer (Stepped M)} → Keeps HeldStep a → (f : Machine M → Ran M)
        → ((s' : Machine M) → T s'.running → Held s' → HeldRun (f s')) → HeldRun (after mem s done a f)
    unfolding after
    after-held h done (kept (held-went r h')) f k = k _ r h'
    after-held h done (kept (held-ended h')) f k = record { machine = h' }
    after-held h done no_answer f k = record { machine = h }

    run_from_held : (left done : ℕ) {s : Machine M} → T s.running → Held s → HeldRun (run_from mem P left done s)
    unfolding run_from
    run_from_held zero done r h = record { machine = h }
    run_from_held (suc left) done r h = after-held h done (step-held P good r h) _ (λ s' r' h'. run_from_held left (done + 1) r' h')

    start-held : (f : ℕ) (context : Value) (gs : List Value) → T (all given (context ∷ gs)) → {s : Machine M} → Held s → Keeps Held (start mem P f context gs s)
    unfolding start all_good all
    start-held f context gs taken {s} h =
        let took = and_yes (given context) (all given gs) taken in
        keeps-need Held _ _ (λ t. keeps-need Held _ _ (λ u. keeps-need Held _ _ (λ v. keeps-need Held _ _ (λ w.
        let ok-context = and_yes (not (is_bad_char context)) (all_good gs) w in
        keeps_then (λ y. HeldSlots y true) Held
        (slots-held true (function_at P f).slots _ (K.started (idle s.running t h.memory))
        (started_good _ (set-good unset (function_at P f).context_var context none-good (given-good context took.0 ok-context.0)) (function_at P f) (function_at P f).return_pointer gs took.1 ok-context.1))
        (λ x h'. kept (record { memory = h'.memory; place = label-fits P good (function_at P f).entry; vars = h'.vars }))))))
      where
        idle : (b : Bool) → T (not b) → I b s.memory → I false s.memory
        idle true t j = absurd t
        idle false t j = j

        none-good : GoodVars unset
        none-good x l = tt

  changes-held : {s : Machine M} → Held s → (r : Reply) {a : Answer (Machine M)} → Keeps Held a → Held (changes s r a).machine
  unfolding changes
  changes-held h r (kept h') = h'
  changes-held h r no_answer = h

  shows-held : {s : Machine M} → Held s → (a : Answer (List ℕ)) → Held (shows s a).machine
  unfolding shows
  shows-held h (ok bs) = h
  shows-held h (refused n) = h

  steps-held : {s : Machine M} → Held s → {a : Answer (Stepped M)} → Keeps HeldStep a → Held (steps s a).machine
  unfolding steps
  steps-held h (kept (held-went r h')) = h'
  steps-held h (kept (held-ended h')) = h'
  steps-held h no_answer = h

  goes-held : {s : Machine M} → Held s → {a : Answer (Ran M)} → Keeps HeldRun a → Held (goes s a).machine
  unfolding goes
  goes-held h (kept h') = h'.machine
  goes-held h no_answer = h

  lays-held : {s : Machine M} → Held s → (a : Answer (List Live)) → Held (lays s a).machine
  unfolding lays
  lays-held h (ok ls) = h
  lays-held h (refused n) = h

  pub ask-held : {s : Machine M} → Held s → (a : Ask) → T (accepted_ask a) → Held (ask mem a s).machine
  unfolding ask accepted_ask host_allocate host_write step_once run
  ask-held {s} h (to_allocate n) t =
      changes-held h _ (keeps_then (I s.running) Held (K.allocate h.memory n) (λ m j. kept (record { memory = j; place = h.place; vars = h.vars })))
  ask-held {s} h (to_write p bs) t =
      changes-held h _ (keeps_then (I s.running) Held (K.write h.memory p bs t) (λ m j. kept (record { memory = j; place = h.place; vars = h.vars })))
  ask-held h (to_read P p n) t = shows-held h _
  ask-held h (to_start P f context gs) t = changes-held h _ (let u = and_yes (accepted P) (all given (context ∷ gs)) t in start-held P u.0 f context gs u.1 h)
  ask-held {s} h (to_step P) t = steps-held h (keeps-need HeldStep s.running _ (λ r. step-held P t r h))
  ask-held {s} h (to_run P budget) t = goes-held h (keeps-need HeldRun s.running _ (λ r. kept (run_from_held P t budget 0 r h)))
  ask-held h (to_list room) t = lays-held h _
