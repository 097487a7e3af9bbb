-- A run of the code is a run of the believed machine, with its count: step by step, by induction over the budget.
use Rattle.std.specs.Prelude.{Result, Ok, Err}
use Prim.Native.Nat.{ℕ, zero, suc, ◌+◌}
use mathlib.Core.Bool.{true}
use mathlib.Core.Path.{◌≡◌, refl, sym, ap, subst}
use Rattle.value.specs.declared.refusal.Refusal.{Refusal}
use Rattle.value.specs.Answer.{Answer}
use Rattle.image.specs.Program.{Program}
use Rattle.memory.specs.Memory.{Memory}
use Rattle.memory.specs.declared.Registers.{Registers}
use Rattle.memory.specs.Tables.{State, sound_of}
use Rattle.machine.specs.Machine.{Machine, Stepped, stopped, step, run_from}
use Rattle.machine.specs.Machine as Machine
use Rattle.machine.specs.Asks.{Turn, turn}
use Rattle.machine.specs.Asks as Asks
use Rattle.machine.specs.Believed.{believed}
use Rattle.instruction.specs.Code as Code
use Rattle.instruction.specs.declared.step.Progress.{Progress}
use Rattle.instruction.specs.declared.step.Progress.TheVariants.{Next, Ended}
use Rattle.step.specs.Items.{Items}
use Rattle.step.specs.Step.{stepped_of}
use Rattle.run.specs.Run.{Running, following, after, ran_of}
use Rattle.run.specs.declared.Ran.{Ran}
use Rattle.eval.specs.Entry.{ended}
use Rattle.agree.specs.Seen.{Runs, seen, Agrees}
use Rattle.agree.specs.Turns.{ran_state, ran_turn}
use Rattle.agree.proofs.Step.{FollowsItems, step_agrees}
use Rattle.image.specs.Limits.{AreBytes}

-- a run, as a turn
abbrev gone : Machine.Ran Memory → Turn Memory
gone r = turn (Asks.ran r.outcome r.count) r.machine

-- what follows a step: the rest of the run, its end, or where it stopped
module _ (before : Registers) (t : State) (done : ℕ) (a : Code.Stepped) (x : Answer (Stepped Memory)) (on : State → Running Ran) (believed-on : Machine Memory → Machine.Ran Memory)
    (rest : (u : State) → Runs u → ran_turn before (ended (on u)) ≡ gone (believed-on (seen u))) where
  then_agrees : (p : Result Progress Refusal) → Agrees t p (λ m. following m a) x → ran_turn before (ended (after t.memory.registers done p a on)) ≡ gone (Machine.after believed (seen t) done x believed-on)
  unfolding Machine.after
  then_agrees (Ok (Next m)) g = rw (sym g.same) (rest (following m a) g.kept)
  then_agrees (Ok (Ended m v)) g = rw (sym g.same) refl
  then_agrees (Err n) g = rw (sym g.same) (ap (λ (u : State). gone (record { outcome = stopped n; count = done; machine = seen u })) g.kept)

  then_kept : (p : Result Progress Refusal) → Agrees t p (λ m. following m a) x → Runs t → ((u : State) → Runs u → sound_of (ran_state before (ended (on u))) ≡ true)
      → sound_of (ran_state before (ended (after t.memory.registers done p a on))) ≡ true
  then_kept (Ok (Next m)) g r s = s (following m a) g.kept
  then_kept (Ok (Ended m v)) g r s = g.kept.0
  then_kept (Err n) g r s = rw g.kept r.sound

  then_bytes : (p : Result Progress Refusal) → Agrees t p (λ m. following m a) x → Runs t → ((u : State) → Runs u → AreBytes (on u).store) → AreBytes (after t.memory.registers done p a on).store
  then_bytes (Ok (Next m)) g r s = s (following m a) g.kept
  then_bytes (Ok (Ended m v)) g r s = g.kept.1
  then_bytes (Err n) g r s = subst (λ (u : State). AreBytes u.memory.store) (sym g.kept) r.bytes

module _ (before : Registers) (i : Items) (P : Program) (f : FollowsItems P i) where
  pub ran_agrees : (left done : ℕ) (t : State) → Runs t → ran_turn before (ended (ran_of i left done t)) ≡ gone (run_from believed P left done (seen t))
  unfolding ran_of run_from
  ran_agrees zero done t r = refl
  ran_agrees (suc left) done t r =
      then_agrees before t done (stepped_of i t) (step believed P (seen t)) (ran_of i left (done + 1)) (run_from believed P left (done + 1)) (ran_agrees left (done + 1)) (stepped_of i t).answer
      (step_agrees t r i P f)

  -- the state after a run is sound again, and its store made of bytes
  pub ran-kept : (left done : ℕ) (t : State) → Runs t → sound_of (ran_state before (ended (ran_of i left done t))) ≡ true
  unfolding ran_of
  ran-kept zero done t r = r.sound
  ran-kept (suc left) done t r =
      then_kept before t done (stepped_of i t) (step believed P (seen t)) (ran_of i left (done + 1)) (run_from believed P left (done + 1)) (ran_agrees left (done + 1)) (stepped_of i t).answer
      (step_agrees t r i P f) r (ran-kept left (done + 1))

  pub ran-bytes : (left done : ℕ) (t : State) → Runs t → AreBytes (ran_of i left done t).store
  unfolding ran_of
  ran-bytes zero done t r = r.bytes
  ran-bytes (suc left) done t r =
      then_bytes before t done (stepped_of i t) (step believed P (seen t)) (ran_of i left (done + 1)) (run_from believed P left (done + 1)) (ran_agrees left (done + 1)) (stepped_of i t).answer
      (step_agrees t r i P f) r (ran-bytes left (done + 1))
