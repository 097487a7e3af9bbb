-- A refused call leaves registers, tables and lent buffers as they stood: by cases of what each part answers, and a run is never refused once it steps.
use Rattle.std.specs.Prelude.{Result, Ok, Err, ⊤}
use Prim.Native.Nat.{ℕ}
use mathlib.Core.Bool.{Bool, true, false}
use mathlib.Core.Path.{◌≡◌, refl, sym, ap, subst}
use mathlib.Core.List.{List, ◌∷◌}
use lib.ListN.{length, replicate}
use lib.Dec.{T, eqb}
use borrow.Author.Tests.{eqb-true}
use mir.Facts.{and_yes}
use Rattle.std.proofs.lemmas.Bool.{false≢true}
use Rattle.value.specs.declared.refusal.Refusal.{Refusal}
use Rattle.value.specs.Answer.{pick}
use Rattle.value.specs.Refusal.{idle, not_sound, short_table}
use Rattle.value.specs.Value.{Value, char, tag}
use Rattle.image.specs.Parse.{took}
use Rattle.image.specs.Program.{Program}
use Rattle.image.specs.Image.{loaded}
use Rattle.image.specs.declared.number.Stop.{Stop}
use Rattle.loader.specs.declared.load.Loaded.{Loaded}
use Rattle.loader.specs.Tables.{tables_from, loaded_from}
use Rattle.memory.specs.declared.Registers.{Registers}
use Rattle.memory.specs.declared.Source.{Source}
use Rattle.memory.specs.declared.Source.TheVariants as source
use Rattle.memory.specs.Tables.{Tables, tables, State, state, Listing, columns, ready, roomy_of, sound_of, allocated_of, written_of, read_access_of, read_of, constant_access_of, constant_of, taken_at, get_at, listed_of}
use Rattle.memory.specs.Tables as Memory
use Rattle.machine.specs.Sound.{all}
use Rattle.machine.specs.Accepted as Accepted
use Rattle.machine.specs.Asks.{refusal}
use Rattle.machine.specs.Accepted.{bad_char}
use Rattle.instruction.specs.Variables.{found}
use Rattle.instruction.specs.Code.{Stepped}
use Rattle.instruction.specs.declared.step.Progress.{Progress}
use Rattle.instruction.specs.declared.step.Progress.TheVariants.{Next, Ended}
use Rattle.step.specs.Items.{Items}
use Rattle.eval.specs.Loaded.{items_in, items_of}
use Rattle.step.specs.Step.{stepped_of}
use Rattle.run.specs.Run.{resting, following, ran_of}
use Rattle.eval.specs.Host.{host_allocated, host_written, host_listed}
use Rattle.eval.specs.Entry.{ended, Entering, Reading, read_out, read_as, stepped_as, run_loaded, run_entered, step_loaded, step_entered, stepped_from, staying, read_loaded, read_after, read_entered}
use Rattle.eval.specs.After.{after_entered, after_given}
use Rattle.eval.specs.Start.{start_entered}
use Rattle.run.specs.declared.Ran.{Ran}
use Rattle.run.specs.declared.Ran.TheVariants as ran
use Rattle.eval.specs.declared.entry.EntryError.TheVariants as entry
use Rattle.agree.specs.Seen.{Runs, Kept}
use Rattle.agree.specs.Turns.{ran_reply, ran_state, entered_reply, entered_state, allocated_reply, allocated_state, written_reply, written_state, read_reply, listed_reply}
use Rattle.agree.proofs.Access.{written-left}
use Rattle.agree.proofs.Initialize.{allots}
use Rattle.decode.proofs.Items.{tables-given}
use Rattle.agree.proofs.Loaded.{loaded_follows}
use Rattle.agree.proofs.Start.{start_untouched}
use Rattle.agree.proofs.Step.{step_agrees}
use Rattle.promise.specs.Calls.{Good, allocating, writing, reading, starting, misgiven, stepping, running, listing}
use Rattle.promise.specs.Promised.{RefusalsChangeNothing, BuffersStay, SlicesStay}
use Rattle.promise.proofs.Lent.{spare_unused, no_values, equal_lengths, bad-length, bad-values, bad-given}
use Rattle.image.specs.Limits.{AreBytes}
use Rattle.calls.specs.Begin.{tags_of, bits_of}

module _ (t : State) (good : Good t) where
  abbrev m : Registers
  m = t.memory.registers

  -- ---- allocate and write

  by_given : (a : Result (ℕ × Registers) Refusal) (s f b p : List ℕ) → ((k : Refusal) → a ≡ Err k → tables m s f b p ≡ t.memory) → (n : Refusal) → allocated_reply a ≡ refusal n
      → state (tables (after_given a m) s f b p) t.variables ≡ t
  by_given (Ok (q, r)) s f b p left n e = absurd (false≢true cc)
  by_given (Err k) s f b p left n e = ap (λ (u : Tables). state u t.variables) (left k refl)

  allocate_untouched : (size : ℕ) (n : Refusal) → allocated_reply (host_allocated t size).answer ≡ refusal n → allocated_state t (host_allocated t size) ≡ t
  unfolding host_allocated
  allocate_untouched size n = let o = allocated_of t.memory size in rw good.sound (by_given o.answer o.store o.frames o.bounds o.pointers (allots t.memory size).left n)

  by_outcome : (a : Result ⊤ Refusal) (s : List ℕ) → ((k : Refusal) → a ≡ Err k → s ≡ t.memory.store) → (n : Refusal) → written_reply a ≡ refusal n
      → state (tables m s t.memory.frames t.memory.bounds t.memory.pointers) t.variables ≡ t
  by_outcome (Ok u) s left n e = absurd (false≢true cc)
  by_outcome (Err k) s left n e = ap (λ (x : List ℕ). state (tables m x t.memory.frames t.memory.bounds t.memory.pointers) t.variables) (left k refl)

  write_untouched : (p : ℕ) (bs : List ℕ) (n : Refusal) → written_reply (host_written t p bs).answer ≡ refusal n → written_state t (host_written t p bs) ≡ t
  unfolding host_written
  write_untouched p bs n = let r = written_of t.memory p bs in rw good.sound (by_outcome r.answer r.table (written-left t.memory p bs) n)

  -- ---- step and run

  by_progress : (a : Stepped) (p : Result Progress Refusal) → Kept t p (λ r. following r a) → (n : Refusal) → entered_reply (stepped_as p) ≡ refusal n
      → state (tables (after_entered (stepped_as p) m) a.store a.frames a.bounds a.pointers) a.variables ≡ t
  by_progress a (Ok (Next r)) k n e = absurd (false≢true cc)
  by_progress a (Ok (Ended r v)) k n e = absurd (false≢true cc)
  by_progress a (Err j) k n e = k

  -- a run that steps is answered with its count
  ran_never : (r : Ran) (n : Refusal) → ran_reply (Ok r) ≡ refusal n → ⊥
  ran_never (ran.Returned r v k) n e = false≢true cc
  ran_never (ran.Paused r k) n e = false≢true cc
  ran_never (ran.Stopped r j k) n e = false≢true cc

  module _ (s : List ℕ) (whole : AreBytes s) (P : Program) (e : ℕ) (h : loaded s ≡ took P e) where
    step_untouched : (n : Refusal) → entered_reply (step_entered s t).answer ≡ refusal n → entered_state m (step_entered s t) ≡ t
    unfolding step_entered step_loaded
    step_untouched n = rw (tables-given s P e h, good.sound) (go (eqb m.running 1) refl)
      where
        go : (b : Bool) → eqb m.running 1 ≡ b → entered_reply (pick b (stepped_from (stepped_of (items_in s (tables_from s)) t)) (staying (Err (entry.Refused idle)) t)).answer ≡ refusal n
            → entered_state m (pick b (stepped_from (stepped_of (items_in s (tables_from s)) t)) (staying (Err (entry.Refused idle)) t)) ≡ t
        go true r d =
            let runs : Runs t = record { sound = good.sound; running = eqb-true _ 1 r; bytes = good.bytes } in
            by_progress (stepped_of (items_in s (tables_from s)) t) (stepped_of (items_in s (tables_from s)) t).answer (step_agrees t runs (items_in s (tables_from s)) P (loaded_follows s whole P e h)).kept n d
        go false r d = refl

    run_untouched : (budget : ℕ) (n : Refusal) → ran_reply (run_entered s budget t).answer ≡ refusal n → ran_state m (run_entered s budget t) ≡ t
    unfolding run_entered run_loaded
    run_untouched budget n = rw (tables-given s P e h, good.sound) (go (eqb m.running 1))
      where
        go : (b : Bool) → ran_reply (pick b (ended (ran_of (items_in s (tables_from s)) budget 0 t)) (resting (Err (entry.Refused idle)) t)).answer ≡ refusal n
            → ran_state m (pick b (ended (ran_of (items_in s (tables_from s)) budget 0 t)) (resting (Err (entry.Refused idle)) t)) ≡ t
        go true d = absurd (ran_never (ran_of (items_in s (tables_from s)) budget 0 t).answer n d)
        go false d = refl

    -- ---- start

    start-stays : (f : ℕ) (context : Value) (gs : List Value) → T (all Accepted.given (context ∷ gs)) → (x : Entering)
        → x ≡ start_entered s f (found (tag context.kind) context.bits) (tags_of gs) (bits_of gs) t
        → (n : Refusal) → entered_reply x.answer ≡ refusal n → entered_state m x ≡ t
    unfolding all
    start-stays f context gs v x same =
        let (a, b) = and_yes (Accepted.given context) (all Accepted.given gs) v in
        subst (λ (y : Entering). (n : Refusal) → entered_reply y.answer ≡ refusal n → entered_state m y ≡ t) (sym same)
        (start_untouched t good.sound good.bytes s whole P e h f context gs a b)

pub refusals_change_nothing : RefusalsChangeNothing
refusals_change_nothing c a (allocating {n}) t g = allocate_untouched t g n
refusals_change_nothing c a (writing {p} {bs} b) t g = write_untouched t g p bs
refusals_change_nothing c a (reading b h) t g = λ n d. refl
refusals_change_nothing c a (starting {s} {P} {e} {f} {context} {gs} spare b h v) t g =
    start-stays t g s b P e h f context gs v _ (spare_unused s f (found (tag context.kind) context.bits) (tags_of gs) (bits_of gs) spare t (equal_lengths gs))
refusals_change_nothing c a (misgiven {s} {P} {e} {f} {context} {ts} {bs} b h v) t g =
    let bad = replicate (length ts) bad_char in
    start-stays t g s b P e h f bad_char bad (bad-given (length ts)) _
    (no_values s f context (found (tag char) 0xd800) ts bs (tags_of bad) (bits_of bad) t (bad-length (length ts)) v (bad-values (tags_of bad) (bits_of bad)))
refusals_change_nothing c a (stepping {s} {P} {e} b h) t g = step_untouched t g s b P e h
refusals_change_nothing c a (running {s} {P} {e} {budget} b h) t g = run_untouched t g s b P e h budget
refusals_change_nothing c a listing t g = λ n d. refl

-- ---- lent buffers

module _ (buffer : List ℕ) (n : Refusal) where
  Stays : Reading → Type 0
  Stays r = read_reply r.answer r.bytes ≡ refusal n → r.bytes ≡ buffer

  taken : (p : Result ℕ Refusal) (raw : List ℕ) → Stays (read_as (taken_at p buffer raw))
  unfolding Stays
  taken (Ok k) raw d = absurd (false≢true cc)
  taken (Err k) raw d = refl

  got : (x : Result Source Refusal) (store raw extents : List ℕ) → Stays (read_as (get_at x store buffer raw extents))
  unfolding constant_of
  got (Ok (source.Local k)) store raw extents = taken (Ok k) store
  got (Ok (source.Constant k)) store raw extents = taken (constant_access_of k (length buffer) raw extents) raw
  got (Err k) store raw extents = taken (Err k) raw

pub buffers_stay : BuffersStay
unfolding read_entered read_loaded read_of Stays
buffers_stay s p buffer t n = by_answer (loaded_from s) (items_of s)
  where
    by_sound : (b : Bool) (x : Reading) → Stays buffer n x → Stays buffer n (pick b x (read_out (Err (entry.Refused not_sound)) buffer))
    by_sound true x f = f
    by_sound false x f = λ d. refl

    by_answer : (r : Result Loaded Stop) (i : Items) → Stays buffer n (read_after r i p buffer t)
    by_answer (Ok l) i = by_sound (sound_of t) _ (got buffer n (read_access_of t.memory p (length buffer)) t.memory.store i.bytes i.extents)
    by_answer (Err e) i = λ d. refl

pub slices_stay : SlicesStay
unfolding host_listed listed_of
slices_stay l f a o t n =
    by_bool (sound_of t) _ not_sound
    (by_bool (ready t.memory) _ not_sound
    (by_bool (roomy_of t.memory.registers.pointers (length l) (length f) (length a) (length o)) _ short_table (λ d. absurd (false≢true cc))))
  where
    Same : Listing → Type 0
    Same x = listed_reply t.memory.registers.pointers x.answer x.slices ≡ refusal n → x.slices ≡ columns l f a o

    by_bool : (b : Bool) (x : Listing) (k : Refusal) → Same x → Same (pick b x (Memory.listing (Err k) l f a o))
    by_bool true x k g = g
    by_bool false x k g = λ d. refl
