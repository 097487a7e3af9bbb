-- A start is the believed machine's: its checks come in the document's order, and then the function begins as its own theorem says.
use Rattle.std.specs.Prelude.{Result, Ok, Err, ⊤}
use Prim.Native.Nat.{ℕ, zero, suc, ◌+◌, ◌-◌, ◌<◌}
use native.Mathlib.Nat.{add-zero}
use native.Mathlib.Omega.{arith}
use mathlib.Core.Bool.{Bool, true, false, not, ◌&&◌}
use mathlib.Core.Path.{◌≡◌, refl, sym, ap, ap₂, ◌∙◌, subst}
use mathlib.Core.List.{List, [], ◌∷◌}
use lib.ListN.{length, get_or, length-map}
use lib.Dec.{T, ltb, leb, eqb, leb-suc-suc}
use borrow.Author.Tests.{lt-ltb, le-leb, lt-leb, eq-eqb, ne_eqb, ltb-true, ltb-false, eqb-true, eqb-false}
use mir.Facts.{and_yes, yes_and}
use Rattle.std.proofs.lemmas.Bool.{false≢true}
use Rattle.value.specs.declared.refusal.Refusal.{Refusal}
use Rattle.value.specs.Answer.{Answer, refused, need, pick}
use Rattle.value.specs.Refusal as Refusal
use Rattle.value.specs.Value.{Value, value, Kind, bool, u8, u16, u32, u64, i8, i16, i32, i64, f32, f64, char, asn, pointer, tag, is_scalar, is_bad_char}
use Rattle.value.specs.Tags.{holds, held}
use Rattle.value.proofs.Tags.{kind_of_tag}
use Rattle.value.proofs.Truth.{no, both_true, is_true}
use Rattle.image.specs.Parse.{took}
use Rattle.image.specs.Program.{Program, Function, function_at}
use Rattle.image.specs.Image.{loaded}
use Rattle.image.specs.Written.{flag_number}
use Rattle.memory.specs.Memory.{Memory}
use Rattle.memory.specs.Tables.{State, every, sound_of}
use Rattle.memory.specs.View.{view, variables_in}
use Rattle.memory.specs.declared.Registers.{Registers}
use Rattle.memory.proofs.Facts.{Sound}
use Rattle.memory.proofs.Every.{by_test, every-all, every-not}
use Rattle.machine.specs.Machine.{Machine, all_good, start}
use Rattle.machine.specs.Sound.{all}
use Rattle.machine.specs.Accepted.{given}
use Rattle.machine.specs.Asks.{to_start, turn, done, refusal, changes, ask}
use Rattle.machine.specs.Believed.{believed}
use Rattle.machine.specs.Entries.{enter}
use Rattle.instruction.specs.Variables.{found}
use Rattle.instruction.specs.Code as Code
use Rattle.instruction.specs.declared.variables.Found.{Found}
use Rattle.instruction.proofs.Values.{Variables}
use Rattle.calls.specs.Fields.{place_in, callee_at}
use Rattle.calls.specs.Begin.{begun_of, tags_of, bits_of}
use Rattle.calls.specs.declared.fields.Callee.{Callee}
use Rattle.calls.proofs.VariablesAgree.{CalleeRead}
use Rattle.calls.proofs.Stands.{function-stands}
use Rattle.calls.proofs.StartAgrees.{StartAgrees, start-refused, start-went, AllGood, start_agrees}
use Rattle.loader.specs.Tables.{tables_from}
use Rattle.eval.specs.Loaded.{items_in}
use Rattle.eval.specs.Entry.{Entering, stepped_from}
use Rattle.eval.specs.Start.{is_value, value_at, wanted_of, start_refusal, where_none, start_loaded, start_entered}
use Rattle.agree.specs.Seen.{seen}
use Rattle.agree.specs.Turns.{entered_reply, entered_state, entered_turn}
use Rattle.agree.proofs.Steady.{tables-sound, runs}
use Rattle.agree.proofs.Jump.{same_tests}
use Rattle.step.specs.Items.{Items}
use Rattle.agree.proofs.Step.{FollowsItems}
use Rattle.agree.proofs.Loaded.{loaded_follows}
use Rattle.agree.proofs.Call.{function_in, place_in_lem}
use Rattle.decode.proofs.Items.{tables-given}
use Rattle.agree.proofs.Entries.{asked}
use Rattle.image.specs.Limits.{AreBytes}

-- ---- "15 a Char that is no scalar value"

twice : (b : Bool) → not (true && not b) ≡ b
twice true = refl
twice false = refl

-- of a value as an entry takes it, only a Char can be wrong
scalar_holds : (k : Kind) (b : ℕ) → T (given (value k b)) → not (is_bad_char (value k b)) ≡ holds k b
unfolding given is_bad_char tag
scalar_holds bool b t = sym (is_true (holds bool b) t)
scalar_holds u8 b t = sym (is_true (holds u8 b) t)
scalar_holds u16 b t = sym (is_true (holds u16 b) t)
scalar_holds u32 b t = sym (is_true (holds u32 b) t)
scalar_holds u64 b t = sym (is_true (holds u64 b) t)
scalar_holds i8 b t = sym (is_true (holds i8 b) t)
scalar_holds i16 b t = sym (is_true (holds i16 b) t)
scalar_holds i32 b t = sym (is_true (holds i32 b) t)
scalar_holds i64 b t = sym (is_true (holds i64 b) t)
scalar_holds f32 b t = sym (is_true (holds f32 b) t)
scalar_holds f64 b t = sym (is_true (holds f64 b) t)
scalar_holds char b t = unfold holds in twice (is_scalar b)
scalar_holds asn b t = sym (is_true (holds asn b) t)
scalar_holds pointer b t = sym (is_true (holds pointer b) t)

good-value : (v : Value) → T (given v) → is_value (tag v.kind) v.bits ≡ not (is_bad_char v)
unfolding held
good-value v t = rw (kind_of_tag v.kind) (sym (scalar_holds v.kind v.bits t))

-- the values' own tests, one by one
value-first : (g : Value) (gs : List Value) → T (given g) → value_at (tags_of (g ∷ gs)) (bits_of (g ∷ gs)) 0 ≡ not (is_bad_char g)
unfolding value_at
value-first g gs t = rw (lt-ltb 0 (suc (length (bits_of gs))) (omega arith)) (good-value g t)

value-next : (g : Value) (gs : List Value) (k : ℕ) → value_at (tags_of (g ∷ gs)) (bits_of (g ∷ gs)) (suc k) ≡ value_at (tags_of gs) (bits_of gs) k
unfolding value_at
value-next g gs k = ap (λ b. b && is_value (get_or (tags_of gs) k 0) (get_or (bits_of gs) k 0)) (leb-suc-suc (suc k) (length (bits_of gs)))

module _ where
  good-at : (gs : List Value) → T (all given gs) → all_good gs ≡ true → (k : ℕ) → k < length gs → value_at (tags_of gs) (bits_of gs) k ≡ true
  unfolding all all_good
  good-at [] t e k l = absurd (omega arith)
  good-at (g ∷ gs) t e zero l = value-first g gs (and_yes (given g) (all given gs) t).0 ∙ (both_true (not (is_bad_char g)) (all_good gs) e).0
  good-at (g ∷ gs) t e (suc k) l = value-next g gs k ∙ good-at gs (and_yes (given g) (all given gs) t).1 (both_true (not (is_bad_char g)) (all_good gs) e).1 k (omega arith)

  bad-at : (gs : List Value) → T (all given gs) → all_good gs ≡ false → (k : ℕ) × (k < length gs) × (value_at (tags_of gs) (bits_of gs) k ≡ false)
  unfolding all all_good
  bad-at [] t e = absurd (no (sym e))
  bad-at (g ∷ gs) t e =
      by_test (not (is_bad_char g))
      (λ b. let (k, l, d) = bad-at gs (and_yes (given g) (all given gs) t).1 (rw b at e) in (suc k, omega arith, value-next g gs k ∙ d))
      (λ b. (0, omega arith, value-first g gs (and_yes (given g) (all given gs) t).0 ∙ b))

values-good : (gs : List Value) → T (all given gs) → every (length (tags_of gs)) (value_at (tags_of gs) (bits_of gs)) ≡ all_good gs
values-good gs t =
    let n : length (tags_of gs) ≡ length gs = length-map gs (λ g. tag g.kind) in
    by_test (all_good gs)
    (λ b. every-all (length (tags_of gs)) _ (λ k l. good-at gs t b k (omega arith)) ∙ sym b)
    (λ b. let (k, l, d) = bad-at gs t b in every-not (length (tags_of gs)) _ k (omega arith) d ∙ sym b)

good-all : (gs : List Value) → T (all given gs) → all_good gs ≡ true → AllGood gs
unfolding all all_good
good-all [] t e = tt
good-all (g ∷ gs) t e =
    let u = and_yes (given g) (all given gs) t in
    let d = both_true (not (is_bad_char g)) (all_good gs) e in
    (rw (sym (scalar_holds g.kind g.bits u.0) ∙ d.0) tt, good-all gs u.1 d.1)

-- ---- "14 wrong number of arguments"

wanted_is : (f : Callee) (n m : ℕ) (b : Bool) → f.wanted ≡ m → f.flag ≡ flag_number b → wanted_of f n ≡ eqb n (m + flag_number b)
unfolding wanted_of
wanted_is f n m false e d = rw (d, e, add-zero m)
wanted_is f n m true e d =
    rw (d, e)
    (by_test (eqb n 0)
    (λ t. let z = eqb-true n 0 t in rw t (sym (ne_eqb n (m + 1) (λ q. omega arith))))
    (λ t. let z = eqb-false n 0 t in rw t (same_tests (n - 1) m n (m + 1) (λ q. omega_pred n m z q) (λ q. omega arith))))
  where
    omega_pred : (n m : ℕ) → (n ≡ 0 → ⊥) → n - 1 ≡ m → n ≡ m + 1
    omega_pred zero m z q = absurd (z refl)
    omega_pred (suc n) m z q = omega arith

-- ---- the start

fewer : (a b : ℕ) → leb a b ≡ not (ltb b a)
fewer a b = by_test (ltb b a) (λ t. lt-leb a b (ltb-true b a t) ∙ sym (ap not t)) (λ t. le-leb a b (ltb-false b a t) ∙ sym (ap not t))

-- what is said of a start, as a turn
start-turn : (t : State) {w : Code.Stepped} {b : Answer (Machine Memory)} → StartAgrees t.memory t.variables w b → entered_turn t.memory.registers (stepped_from w) ≡ changes (seen t) done b
unfolding changes
start-turn t (start-refused n) = refl
start-turn t (start-went after vs so v r l f) = ap (λ (b : Bool). turn done (record { memory = view after; running = b; place = after.registers.next; vars = variables_in vs })) (eq-eqb _ 1 r)

start-sound : (t : State) → sound_of t ≡ true → AreBytes t.memory.store → {w : Code.Stepped} {b : Answer (Machine Memory)} → StartAgrees t.memory t.variables w b
    → sound_of (entered_state t.memory.registers (stepped_from w)) ≡ true
start-sound t so bytes (start-refused n) = so
start-sound t so bytes (start-went after vs st v r l f) = (runs after vs st v r l (f bytes)).sound

start_bytes_kept : (t : State) → AreBytes t.memory.store → {w : Code.Stepped} {b : Answer (Machine Memory)} → StartAgrees t.memory t.variables w b → AreBytes w.store
start_bytes_kept t bytes (start-refused n) = bytes
start_bytes_kept t bytes (start-went after vs st v r l f) = f bytes

-- a refusal leaves every table as it stood
abbrev Stays : State → Entering → Type 0
Stays t x = (k : Refusal) → entered_reply x.answer ≡ refusal k → entered_state t.memory.registers x ≡ t

start-stays : (t : State) {w : Code.Stepped} {b : Answer (Machine Memory)} → StartAgrees t.memory t.variables w b → Stays t (stepped_from w)
start-stays t (start-refused n) k e = refl
start-stays t (start-went after vs st v r l f) k e = absurd (false≢true cc)

module _ (t : State) (so : sound_of t ≡ true) (bytes : AreBytes t.memory.store) (s : List ℕ) (whole : AreBytes s) (P : Program) (e : ℕ) (h : loaded s ≡ took P e)
    (n : ℕ) (context : Value) (gs : List Value) (fine : T (given context)) (all-fine : T (all given gs)) where
  abbrev m : Registers
  m = t.memory.registers

  abbrev lent : Found
  lent = found (tag context.kind) context.bits

  -- the tables of the image's items
  abbrev i : Items
  i = items_in s (tables_from s)

  abbrev checked : Result ⊤ Refusal
  checked = start_refusal m s i.functions n lent (tags_of gs) (bits_of gs)

  abbrev begun : Code.Stepped
  begun = begun_of t.memory t.variables s i.labels i.functions n lent (tags_of gs) (bits_of gs)

  -- the entry's answer, by what its checks found
  abbrev answer_by : Result ⊤ Refusal → Entering
  answer_by r = where_none r t (stepped_from begun)

  abbrev asked-start : Answer (Machine Memory)
  asked-start = start believed P n context gs (seen t)

  -- the same turn, and after it a sound state whose store is made of bytes, the one before it where it is refused
  abbrev Goal : Type 0
  Goal = (entered_turn m (answer_by checked) ≡ changes (seen t) done asked-start) × (sound_of (entered_state m (answer_by checked)) ≡ true) × AreBytes (answer_by checked).store × Stays t (answer_by checked)

  refused_by : (k : Refusal) → checked ≡ Err k → asked-start ≡ refused k → Goal
  unfolding changes
  refused_by k e d = (
    ap (λ r. entered_turn m (answer_by r)) e ∙ sym (ap (changes (seen t) done) d),
    ap (λ r. sound_of (entered_state m (answer_by r))) e ∙ so,
    subst (λ r. AreBytes (answer_by r).store) (sym e) bytes,
    subst (λ r. Stays t (answer_by r)) (sym e) (λ j d. refl),
  )

  sound-all : Sound t.memory × Variables t.variables
  sound-all = let z = tables-sound t so in (z.0, z.1)

  both_fine : T (given context) → T (all given gs) → T (all given (context ∷ gs))
  unfolding all
  both_fine a b = yes_and (given context) (all given gs) a b

  f : FollowsItems P i
  f = loaded_follows s whole P e h

  abbrev F : Function
  F = function_at P n

  -- 11
  by_running : eqb m.running 1 ≡ true → Goal
  unfolding start_refusal start need
  by_running r = refused_by Refusal.running (rw r refl) (rw r refl)

  module _ (idle : eqb m.running 1 ≡ false) where
    -- 13
    by_function : ltb n (length P.functions) ≡ false → Goal
    unfolding start_refusal start need
    by_function a = refused_by Refusal.no_function (rw (idle, f.functions_placed, fewer (length P.functions) n, a) refl) (rw (idle, a) refl)

    module _ (known : ltb n (length P.functions) ≡ true) where
      inside : n < length P.functions
      inside = ltb-true n _ known

      callee : CalleeRead s (callee_at s (place_in i.functions n)) F
      callee =
          let there = f.function_stands n inside in
          rw (place_in_lem i.functions n (omega (arith, f.functions_placed, inside))) (function-stands s (get_or i.functions n 0) F there.end there.past there.stand)

      -- 14
      counts : wanted_of (callee_at s (place_in i.functions n)) (length (tags_of gs)) ≡ eqb (length gs) (length F.parameters + flag_number F.return_pointer)
      counts =
          wanted_is (callee_at s (place_in i.functions n)) (length (tags_of gs)) (length F.parameters) F.return_pointer callee.wanted callee.flag
          ∙ ap (λ k. eqb k (length F.parameters + flag_number F.return_pointer)) (length-map gs (λ g. tag g.kind))

      by_count : eqb (length gs) (length F.parameters + flag_number F.return_pointer) ≡ false → Goal
      unfolding start_refusal start need
      by_count b = refused_by Refusal.wrong_arguments (rw (idle, f.functions_placed, fewer (length P.functions) n, known, counts, b) refl) (rw (idle, known, b) refl)

      module _ (many : eqb (length gs) (length F.parameters + flag_number F.return_pointer) ≡ true) where
        -- 15, of the context and of the arguments alike
        values : all_good (context ∷ gs) ≡ (is_value (tag context.kind) context.bits && every (length (tags_of gs)) (value_at (tags_of gs) (bits_of gs)))
        unfolding all_good
        values = sym (ap₂ ◌&&◌ (good-value context fine) (values-good gs all-fine))

        checked-is : checked ≡ pick (all_good (context ∷ gs)) (Ok tt) (Err Refusal.not_scalar)
        unfolding start_refusal
        checked-is =
            rw (idle, f.functions_placed, fewer (length P.functions) n, known, counts, many, values)
            (both_tests (is_value (tag context.kind) context.bits) (every (length (tags_of gs)) (value_at (tags_of gs) (bits_of gs))))
          where
            both_tests : (b c : Bool) → ◌≡◌ {A = Result ⊤ Refusal} (pick (not b) (Err Refusal.not_scalar) (pick (not c) (Err Refusal.not_scalar) (Ok tt))) (pick (b && c) (Ok tt) (Err Refusal.not_scalar))
            both_tests true true = refl
            both_tests true false = refl
            both_tests false c = refl

        by_values : all_good (context ∷ gs) ≡ false → Goal
        unfolding start need
        by_values c = refused_by Refusal.not_scalar (checked-is ∙ ap (λ b. pick b (Ok tt) (Err Refusal.not_scalar)) c) (rw (idle, known, many, c) refl)

        begins : all_good (context ∷ gs) ≡ true → Goal
        begins c =
            let good = good-all (context ∷ gs) (both_fine fine all-fine) c in
            let lab = f.labelled in
            let limits = f.function_within n inside in
            let passed : checked ≡ Ok tt = checked-is ∙ ap (λ b. pick b (Ok tt) (Err Refusal.not_scalar)) c in
            let a =
            start_agrees P s i.labels i.functions t.memory t.variables m.next n (variables_in t.variables) context gs sound-all.0 sound-all.1.counted known many c good.0 good.1
            callee (function_in P f.variables F limits) (omega (arith, lab.room, limits.entry)) (lab.leads F.entry limits.entry) (lab.within F.entry limits.entry) in (
              ap (λ j. entered_turn m (answer_by j)) passed ∙ start-turn t a
                  ∙ ap (λ (b : Bool). changes (seen t) done (start believed P n context gs (record { memory = view t.memory; running = b; place = m.next; vars = variables_in t.variables }))) (sym idle),
              ap (λ j. sound_of (entered_state m (answer_by j))) passed ∙ start-sound t so bytes a,
              subst (λ j. AreBytes (answer_by j).store) (sym passed) (start_bytes_kept t bytes a),
              subst (λ j. Stays t (answer_by j)) (sym passed) (start-stays t a),
            )

  joined : Goal
  joined =
      by_test (eqb m.running 1) by_running
      (λ idle. by_test (ltb n (length P.functions))
      (λ known. by_test (eqb (length gs) (length F.parameters + flag_number F.return_pointer))
      (λ many. by_test (all_good (context ∷ gs)) (begins idle known many) (by_values idle known many))
      (by_count idle known))
      (by_function idle))

  pub start-enters : entered_turn m (start_entered s n lent (tags_of gs) (bits_of gs) t) ≡ enter (to_start P n context gs) (seen t)
  unfolding start_entered start_loaded ask
  start-enters = rw (tables-given s P e h, so, asked t so bytes (to_start P n context gs)) joined.0

  pub start-kept : sound_of (entered_state m (start_entered s n lent (tags_of gs) (bits_of gs) t)) ≡ true
  unfolding start_entered start_loaded
  start-kept = rw (tables-given s P e h, so) joined.1

  pub start-bytes : AreBytes (start_entered s n lent (tags_of gs) (bits_of gs) t).store
  unfolding start_entered start_loaded
  start-bytes = rw (tables-given s P e h, so) joined.2

  pub start_untouched : Stays t (start_entered s n lent (tags_of gs) (bits_of gs) t)
  unfolding start_entered start_loaded
  start_untouched = rw (tables-given s P e h, so) joined.3
