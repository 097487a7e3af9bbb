-- The loop's invariant: what is left of the run at the loop's state gives what the whole run gives.
use Prim.Native.Nat.{◌-◌}
use mathlib.Core.Path.{◌≡◌}
use Rattle.memory.specs.Tables.{tables, state}
use Rattle.step.specs.Items.{items}
use Rattle.run.specs.Run.{ran_of}
use Rattle.run.proofs.run_steps.Given as goal

abbrev pub invariant-loop-done : goal.invariant-loop-done
invariant-loop-done l =
    ran_of (items l.fn.image l.fn.places l.fn.labels l.fn.functions l.fn.extents) (l.fn.budget - l.done) l.done (state (tables l.here l.store l.frames l.bounds l.pointers) l.vars)
    ≡ ran_of (items l.fn.image l.fn.places l.fn.labels l.fn.functions l.fn.extents) l.fn.budget 0 (state (tables l.fn.m l.fn.store l.fn.frames l.fn.bounds l.fn.pointers) l.fn.vars)
