-- A run, one step at a time: what is left of it after a step gives what the whole gives.
use Rattle.std.specs.Prelude.{Option, Result, Ok, Err}
use Prim.Native.Nat.{ℕ, suc, ◌+◌, ◌-◌, ◌<◌}
use native.Mathlib.Omega.{arith}
use mathlib.Core.Path.{◌≡◌}
use mathlib.Core.List.{List}
use Rattle.value.specs.declared.refusal.Refusal.{Refusal}
use Rattle.memory.specs.declared.Registers.{Registers}
use Rattle.memory.specs.Tables.{State, state, tables}
use Rattle.instruction.specs.Code.{stepped}
use Rattle.instruction.specs.declared.variables.Found.{Found}
use Rattle.instruction.specs.declared.step.Progress.{Progress}
use Rattle.instruction.specs.declared.step.Progress.TheVariants.{Next, Ended}
use Rattle.step.specs.Items.{Items}
use Rattle.step.specs.Step.{stepped_of}
use Rattle.run.specs.Run.{running, resting, ran_of}
use Rattle.run.specs.declared.Ran.TheVariants as ran

module _ (i : Items) (t : State) (budget done : ℕ) where
  -- one step is taken of those left
  module _ (h : done < budget) (store frames bounds pointers vars : List ℕ) where
    left : budget - done ≡ suc (budget - (done + 1))
    left = omega arith

    pub next_of : (n : Registers) → stepped (Ok (Next n)) store frames bounds pointers vars ≡ stepped_of i t
        → ran_of i (budget - (done + 1)) (done + 1) (state (tables n store frames bounds pointers) vars) ≡ ran_of i (budget - done) done t
    unfolding ran_of
    next_of n e = rw (left, ← e)

    pub ended_of : (r : Result Progress Refusal) (n : Registers) (v : Option Found) → r ≡ Ok (Ended n v) → stepped r store frames bounds pointers vars ≡ stepped_of i t
        → ran_of i (budget - done) done t ≡ running (ran.Returned n v (done + 1)) store frames bounds pointers vars
    unfolding ran_of
    ended_of r n v d e = rw (left, ← e, d)

    pub refused_of : (r : Result Progress Refusal) (why : Refusal) → r ≡ Err why → stepped r store frames bounds pointers vars ≡ stepped_of i t
        → ran_of i (budget - done) done t ≡ running (ran.Stopped t.memory.registers why done) store frames bounds pointers vars
    unfolding ran_of
    refused_of r why d e = rw (left, ← e, d)

  -- none is left
  pub paused_of : done ≡ budget → resting (ran.Paused t.memory.registers budget) t ≡ ran_of i (budget - done) done t
  unfolding ran_of
  paused_of e = let none : budget - done ≡ 0 = omega arith in rw (none, e)
