-- The words that tell an entry's answer are those that tell its reply: by what the answer is, and of a run step by step, since a value that is returned has the tag and bits that tell it.
use Rattle.std.specs.Prelude.{Result, Ok, Err, ⊤}
use Rattle.std.specs.Prelude as Code'
use Prim.Native.Nat.{ℕ, zero, suc, ◌+◌}
use mathlib.Core.Bool.{true}
use mathlib.Core.Path.{◌≡◌, refl, ap}
use mathlib.Core.List.{List}
use lib.ListN.{length}
use lib.Dec.{eqb}
use borrow.Author.Tests.{eqb-true}
use Rattle.value.specs.declared.refusal.Refusal.{Refusal}
use Rattle.value.specs.Answer.{Answer}
use Rattle.value.specs.Refusal.{number_of}
use Rattle.image.specs.Parse.{Got, took, refused}
use Rattle.image.specs.Program.{Program}
use Rattle.image.specs.Image.{loaded}
use Rattle.image.specs.Limits.{AreBytes}
use Rattle.memory.specs.Memory.{Memory}
use Rattle.memory.specs.Tables.{State, Tables, sound_of, read_of}
use Rattle.memory.specs.declared.Registers.{Registers}
use Rattle.memory.proofs.Every.{by_test}
use Rattle.machine.specs.Machine.{Stepped, step}
use Rattle.machine.specs.Believed.{believed}
use Rattle.machine.specs.Asks as Asks
use Rattle.instruction.specs.Code as Code
use Rattle.instruction.specs.declared.variables.Found.{Found}
use Rattle.instruction.specs.declared.step.Progress.{Progress}
use Rattle.instruction.specs.declared.step.Progress.TheVariants.{Next, Ended}
use Rattle.calls.specs.Begin.{ran_at, with_slots, variables_set, begun_in, begun_at, begun_of}
use Rattle.calls.specs.Code.{Entered, slots_made_of, where_room}
use Rattle.calls.specs.Room.{room_in_of}
use Rattle.calls.specs.Fields.{place_in, callee_at, entry_of}
use Rattle.calls.specs.declared.fields.Callee.{Callee}
use Rattle.step.specs.Items.{Items}
use Rattle.step.specs.Step.{stepped_of}
use Rattle.run.specs.Run.{Running, following, after, ran_of}
use Rattle.run.specs.declared.Ran.{Ran}
use Rattle.loader.specs.Tables.{tables_from}
use Rattle.eval.specs.Loaded.{items_in}
use Rattle.eval.specs.Entry.{run_loaded, run_entered, stepped_as, stepped_from, step_loaded, step_entered, reading, read_loaded, read_entered}
use Rattle.eval.specs.Start.{start_refusal, where_none, start_loaded, start_entered}
use Rattle.eval.specs.declared.entry.EntryError.{EntryError}
use Rattle.agree.specs.Seen.{Runs, seen, Kept, Agrees}
use Rattle.agree.specs.Turns.{ran_reply, entered_reply, allocated_reply, read_reply}
use Rattle.agree.proofs.Step.{FollowsItems, step_agrees}
use Rattle.agree.proofs.Loaded.{loaded_follows}
use Rattle.decode.proofs.Items.{tables-given}
use Rattle.promise.proofs.Refused.{refused_end}
use Rattle.replies.specs.declared.words.Reply.{Reply}
use Rattle.replies.specs.Words.{counted_of, ended_of, reply_entered, reply_run, reply_given, reply_read}
use Rattle.linked.specs.Functions.{told, placed}

pub given-words : (a : Result (ℕ × Registers) Refusal) → reply_given a ≡ told (allocated_reply a)
given-words (Ok (p, m)) = refl
given-words (Err n) = refl

-- ---- a step, and each step of a run

abbrev Said : Result Progress EntryError → Type 0
Said a = reply_entered a ≡ told (entered_reply a)

step-said : (t : State) (p : Result Progress Refusal) (after : Registers → State) → Kept t p after → Said (stepped_as p)
step-said t (Ok (Next m)) after k = refl
step-said t (Ok (Ended m v)) after k = ap (λ (w : Code'.Option Found). ended_of w 0) k.2
step-said t (Err n) after k = refl

abbrev RunSaid : Running Ran → Type 0
RunSaid r = reply_run (Ok r.answer) ≡ told (ran_reply (Ok r.answer))

then_said : (t : State) (done : ℕ) (a : Code.Stepped) (x : Answer (Stepped Memory)) (on : State → Running Ran) → ((u : State) → Runs u → RunSaid (on u))
    → (p : Result Progress Refusal) → Agrees t p (λ m. following m a) x → RunSaid (after t.memory.registers done p a on)
then_said t done a x on rest (Ok (Next m)) g = rest (following m a) g.kept
then_said t done a x on rest (Ok (Ended m v)) g = ap (λ (w : Code'.Option Found). ended_of w (done + 1)) g.kept.2
then_said t done a x on rest (Err n) g = refl

ran-said : (i : Items) (P : Program) → FollowsItems P i → (left done : ℕ) (t : State) → Runs t → RunSaid (ran_of i left done t)
unfolding ran_of
ran-said i P f zero done t r = refl
ran-said i P f (suc left) done t r =
    then_said t done (stepped_of i t) (step believed P (seen t)) (ran_of i left (done + 1)) (ran-said i P f left (done + 1)) (stepped_of i t).answer (step_agrees t r i P f)

-- ---- the entries that take an image

-- by what the image comes to
placed_as : (s : List ℕ) (w : Reply) (r : Asks.Reply) → ((n : Refusal) (q : ℕ) → loaded s ≡ refused n q → w ≡ counted_of (number_of n) q) → ((P : Program) (e : ℕ) → loaded s ≡ took P e → w ≡ told r)
    → w ≡ placed (loaded s) (told r)
placed_as s w r f g = go (loaded s) refl
  where
    go : (x : Got Program) → loaded s ≡ x → w ≡ placed x (told r)
    go (refused n q) h = f n q h
    go (took P e) h = g P e h

module _ (s : List ℕ) (whole : AreBytes s) (t : State) (bytes : AreBytes t.memory.store) where
  runs : sound_of t ≡ true → eqb t.memory.registers.running 1 ≡ true → Runs t
  runs so r = record { sound = so; running = eqb-true _ 1 r; bytes = bytes }

  pub run-words : (budget : ℕ) → reply_run (run_entered s budget t).answer ≡ placed (loaded s) (told (ran_reply (run_entered s budget t).answer))
  unfolding run_entered run_loaded
  run-words budget =
      let a = (run_entered s budget t).answer in
      placed_as s (reply_run a) (ran_reply a) (λ n q h. rw (refused_end s n q h) refl)
      (λ P e h. rw (tables-given s P e h)
      (by_test (sound_of t)
      (λ so. by_test (eqb t.memory.registers.running 1)
      (λ r. rw (so, r) (ran-said (items_in s (tables_from s)) P (loaded_follows s whole P e h) budget 0 t (runs so r)))
      (λ r. rw (so, r) refl))
      (λ so. rw so refl)))

  pub step_words : reply_entered (step_entered s t).answer ≡ placed (loaded s) (told (entered_reply (step_entered s t).answer))
  unfolding step_entered step_loaded
  step_words =
      let a = (step_entered s t).answer in
      placed_as s (reply_entered a) (entered_reply a) (λ n q h. rw (refused_end s n q h) refl)
      (λ P e h. rw (tables-given s P e h)
      (by_test (sound_of t)
      (λ so. by_test (eqb t.memory.registers.running 1)
      (λ r. rw (so, r) (step-said t (stepped_of (items_in s (tables_from s)) t).answer _ (step_agrees t (runs so r) (items_in s (tables_from s)) P (loaded_follows s whole P e h)).kept))
      (λ r. rw (so, r) refl))
      (λ so. rw so refl)))

-- a start goes on or is refused
begun-said : (m : Tables) (vars s labels functions : List ℕ) (n : ℕ) (context : Found) (ts bs : List ℕ) → Said (stepped_as (begun_of m vars s labels functions n context ts bs).answer)
unfolding begun_of begun_in ran_at
begun-said m vars s labels functions n context ts bs = at (callee_at s (place_in functions n)) (entry_of labels (callee_at s (place_in functions n)))
  where
    slots : (k : ℕ) (a : Result Registers Refusal) → Said (stepped_as (ran_at k a))
    slots k (Ok r) = refl
    slots k (Err r) = refl

    room : (r : Result ⊤ Refusal) (k : ℕ) (e : Entered) (vs : List ℕ) → Said (stepped_as (where_room r m vars (with_slots k e vs)).answer)
    room (Ok u) k e vs = slots k e.answer
    room (Err n) k e vs = refl

    at : (f : Callee) (p : Result ℕ Refusal) → Said (stepped_as (begun_at m vars s p f context ts bs).answer)
    at f (Ok k) =
        room (room_in_of m.registers s f (length m.store) m.frames m.bounds (length m.pointers)) k (slots_made_of s f.count f.slots m)
        (variables_set s f context ts bs m.registers.pointers vars)
    at f (Err k) = refl

pub start-words : (s : List ℕ) (n : ℕ) (context : Found) (ts bs : List ℕ) (t : State)
    → reply_entered (start_entered s n context ts bs t).answer ≡ placed (loaded s) (told (entered_reply (start_entered s n context ts bs t).answer))
unfolding start_entered start_loaded
start-words s n context ts bs t =
    let a = (start_entered s n context ts bs t).answer in
    let i = items_in s (tables_from s) in
    placed_as s (reply_entered a) (entered_reply a) (λ k q h. rw (refused_end s k q h) refl)
    (λ P e h. rw (tables-given s P e h)
    (by_test (sound_of t) (λ so. rw so (checked (start_refusal t.memory.registers s i.functions n context ts bs) i.labels i.functions)) (λ so. rw so refl)))
  where
    checked : (r : Result ⊤ Refusal) (labels functions : List ℕ) → Said (where_none r t (stepped_from (begun_of t.memory t.variables s labels functions n context ts bs))).answer
    checked (Ok u) labels functions = begun-said t.memory t.variables s labels functions n context ts bs
    checked (Err k) labels functions = refl

pub read-words : (s : List ℕ) (p : ℕ) (buffer : List ℕ) (t : State)
    → reply_read (read_entered s p buffer t).answer ≡ placed (loaded s) (told (read_reply (read_entered s p buffer t).answer (read_entered s p buffer t).bytes))
unfolding read_entered read_loaded
read-words s p buffer t =
    let r = read_entered s p buffer t in
    let o = read_of t.memory p buffer s (items_in s (tables_from s)).extents in
    placed_as s (reply_read r.answer) (read_reply r.answer r.bytes) (λ k q h. rw (refused_end s k q h) refl)
    (λ P e h. rw (tables-given s P e h) (by_test (sound_of t) (λ so. rw so (done o.answer o.table)) (λ so. rw so refl)))
  where
    done : (a : Result ⊤ Refusal) (bs : List ℕ) → reply_read (reading a) ≡ told (read_reply (reading a) bs)
    done (Ok u) bs = refl
    done (Err k) bs = refl
