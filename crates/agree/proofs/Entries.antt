-- The entries that take an image are the believed machine's: where the image was loaded and the state is sound, a step and a run answer what its own entries do.
use Rattle.std.specs.Prelude.{Result, Ok, Err}
use Prim.Native.Nat.{ℕ}
use mathlib.Core.Bool.{Bool, true, false}
use mathlib.Core.Path.{◌≡◌, refl, sym, ap, subst}
use mathlib.Core.List.{List}
use lib.Dec.{eqb}
use borrow.Author.Tests.{eqb-true}
use Rattle.image.specs.Parse.{took}
use Rattle.image.specs.Program.{Program}
use Rattle.image.specs.Image.{loaded}
use Rattle.loader.specs.Tables.{tables_from}
use Rattle.memory.specs.Memory.{Memory}
use Rattle.memory.specs.Tables.{State, sound_of}
use Rattle.memory.specs.declared.Registers.{Registers}
use Rattle.value.specs.declared.refusal.Refusal.{Refusal}
use Rattle.value.specs.Answer.{Answer, ok, need, pick}
use Rattle.value.specs.Refusal.{idle}
use Rattle.value.proofs.Truth.{is_true}
use Rattle.machine.specs.Machine.{Stepped, step, step_once, run_from, run}
use Rattle.machine.specs.Sound.{sound}
use Rattle.machine.specs.Asks.{Ask, to_step, to_run, turn, refusal, steps, goes, ask}
use Rattle.machine.specs.Believed.{believed}
use Rattle.machine.specs.Entries.{enter}
use Rattle.instruction.specs.declared.step.Progress.{Progress}
use Rattle.instruction.specs.declared.step.Progress.TheVariants.{Next, Ended}
use Rattle.eval.specs.Loaded.{items_in}
use Rattle.eval.specs.Entry.{ended, run_loaded, run_entered, stepped_as, stepped_from, staying, step_loaded, step_entered}
use Rattle.eval.specs.After.{after_entered}
use Rattle.run.specs.Run.{resting, ran_of}
use Rattle.eval.specs.declared.entry.EntryError.TheVariants as entry
use Rattle.step.specs.Step.{stepped_of}
use Rattle.agree.specs.Seen.{Runs, seen, Kept, Agrees}
use Rattle.agree.specs.Turns.{ran_state, ran_turn, entered_reply, entered_state, entered_turn}
use Rattle.decode.proofs.Items.{tables-given}
use Rattle.agree.proofs.Whole.{seen-sound}
use Rattle.agree.proofs.Loaded.{loaded_follows}
use Rattle.agree.proofs.Step.{step_agrees}
use Rattle.agree.proofs.Run.{ran_agrees, ran-kept, ran-bytes}
use Rattle.image.specs.Limits.{AreBytes}

-- what is said of a step, as a turn
step-turn : (t : State) (p : Result Progress Refusal) (after : Registers → State) (x : Answer (Stepped Memory)) → Agrees t p after x → turn (entered_reply (stepped_as p)) (seen (after (after_entered (stepped_as p) t.memory.registers))) ≡ steps (seen t) x
unfolding steps
step-turn t (Ok (Next m)) after x g = rw (sym g.same) refl
step-turn t (Ok (Ended m v)) after x g = rw (sym g.same) refl
step-turn t (Err n) after x g = rw (sym g.same) (ap (λ (u : State). turn (refusal n) (seen u)) g.kept)

kept-turn : (t : State) → sound_of t ≡ true → (p : Result Progress Refusal) (after : Registers → State) → Kept t p after → sound_of (after (after_entered (stepped_as p) t.memory.registers)) ≡ true
kept-turn t so (Ok (Next m)) after k = k.sound
kept-turn t so (Ok (Ended m v)) after k = k.0
kept-turn t so (Err n) after k = rw k so

kept-bytes : (t : State) → AreBytes t.memory.store → (p : Result Progress Refusal) (after : Registers → State) → Kept t p after → AreBytes (after (after_entered (stepped_as p) t.memory.registers)).memory.store
kept-bytes t b (Ok (Next m)) after k = k.bytes
kept-bytes t b (Ok (Ended m v)) after k = k.1
kept-bytes t b (Err n) after k = subst (λ (u : State). AreBytes u.memory.store) (sym k) b

-- the tables of a sound state, whose store is made of bytes
module _ (t : State) (so : sound_of t ≡ true) (bytes : AreBytes t.memory.store) where
  pub asked : (a : Ask) → enter a (seen t) ≡ ask believed a (seen t)
  unfolding enter
  asked a = rw (is_true (sound (seen t)) (seen-sound t so bytes))

  -- an image that was loaded
  module _ (s : List ℕ) (whole : AreBytes s) (P : Program) (e : ℕ) (h : loaded s ≡ took P e) where
    runs : eqb t.memory.registers.running 1 ≡ true → Runs t
    runs r = record { sound = so; running = eqb-true _ 1 r; bytes = bytes }

    pub run_enters : (budget : ℕ) → ran_turn t.memory.registers (run_entered s budget t) ≡ enter (to_run P budget) (seen t)
    unfolding run_entered run_loaded ask goes run need
    run_enters budget = rw (tables-given s P e h, so, asked (to_run P budget)) (go (eqb t.memory.registers.running 1) refl)
      where
        go : (b : Bool) → eqb t.memory.registers.running 1 ≡ b
            → ran_turn t.memory.registers (pick b (ended (ran_of (items_in s (tables_from s)) budget 0 t)) (resting (Err (entry.Refused idle)) t)) ≡ goes (seen t) (need b idle (ok (run_from believed P budget 0 (seen t))))
        go true r = ran_agrees t.memory.registers (items_in s (tables_from s)) P (loaded_follows s whole P e h) budget 0 t (runs r)
        go false r = refl

    pub step-enters : entered_turn t.memory.registers (step_entered s t) ≡ enter (to_step P) (seen t)
    unfolding step_entered step_loaded ask step_once need steps
    step-enters = rw (tables-given s P e h, so, asked (to_step P)) (go (eqb t.memory.registers.running 1) refl)
      where
        go : (b : Bool) → eqb t.memory.registers.running 1 ≡ b
            → entered_turn t.memory.registers (pick b (stepped_from (stepped_of (items_in s (tables_from s)) t)) (staying (Err (entry.Refused idle)) t)) ≡ steps (seen t) (need b idle (step believed P (seen t)))
        go true r = step-turn t (stepped_of (items_in s (tables_from s)) t).answer _ (step believed P (seen t)) (step_agrees t (runs r) (items_in s (tables_from s)) P (loaded_follows s whole P e h))
        go false r = refl

    -- ---- the state after is sound again, and its store made of bytes

    pub run-kept : (budget : ℕ) → sound_of (ran_state t.memory.registers (run_entered s budget t)) ≡ true
    unfolding run_entered run_loaded
    run-kept budget = rw (tables-given s P e h, so) (go (eqb t.memory.registers.running 1) refl)
      where
        go : (b : Bool) → eqb t.memory.registers.running 1 ≡ b → sound_of (ran_state t.memory.registers (pick b (ended (ran_of (items_in s (tables_from s)) budget 0 t)) (resting (Err (entry.Refused idle)) t))) ≡ true
        go true r = ran-kept t.memory.registers (items_in s (tables_from s)) P (loaded_follows s whole P e h) budget 0 t (runs r)
        go false r = so

    pub step_kept : sound_of (entered_state t.memory.registers (step_entered s t)) ≡ true
    unfolding step_entered step_loaded
    step_kept = rw (tables-given s P e h, so) (go (eqb t.memory.registers.running 1) refl)
      where
        go : (b : Bool) → eqb t.memory.registers.running 1 ≡ b
            → sound_of (entered_state t.memory.registers (pick b (stepped_from (stepped_of (items_in s (tables_from s)) t)) (staying (Err (entry.Refused idle)) t))) ≡ true
        go true r = kept-turn t so (stepped_of (items_in s (tables_from s)) t).answer _ (step_agrees t (runs r) (items_in s (tables_from s)) P (loaded_follows s whole P e h)).kept
        go false r = so

    pub run-bytes : (budget : ℕ) → AreBytes (run_entered s budget t).store
    unfolding run_entered run_loaded
    run-bytes budget = rw (tables-given s P e h, so) (go (eqb t.memory.registers.running 1) refl)
      where
        go : (b : Bool) → eqb t.memory.registers.running 1 ≡ b → AreBytes (pick b (ended (ran_of (items_in s (tables_from s)) budget 0 t)) (resting (Err (entry.Refused idle)) t)).store
        go true r = ran-bytes t.memory.registers (items_in s (tables_from s)) P (loaded_follows s whole P e h) budget 0 t (runs r)
        go false r = bytes

    pub step-bytes : AreBytes (step_entered s t).store
    unfolding step_entered step_loaded
    step-bytes = rw (tables-given s P e h, so) (go (eqb t.memory.registers.running 1) refl)
      where
        go : (b : Bool) → eqb t.memory.registers.running 1 ≡ b → AreBytes (pick b (stepped_from (stepped_of (items_in s (tables_from s)) t)) (staying (Err (entry.Refused idle)) t)).store
        go true r = kept-bytes t bytes (stepped_of (items_in s (tables_from s)) t).answer _ (step_agrees t (runs r) (items_in s (tables_from s)) P (loaded_follows s whole P e h)).kept
        go false r = bytes
