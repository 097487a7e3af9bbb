-- The loop's invariant: what is left of the slots makes what all of them make.
use Prim.Native.Nat.{◌-◌}
use mathlib.Core.Path.{◌≡◌}
use Rattle.memory.specs.Tables.{tables}
use Rattle.calls.specs.Code.{slots_made_of}
use Rattle.calls.proofs.call.make_slots.Given as goal

abbrev pub invariant-loop : goal.invariant-loop
invariant-loop l =
    slots_made_of l.fn.image (l.fn.callee.count - l.counter) l.at (tables l.n l.store l.frames l.bounds l.pointers) ≡ slots_made_of l.fn.image l.fn.callee.count l.fn.callee.slots (tables l.fn.m l.fn.store l.fn.frames l.fn.bounds l.fn.pointers)
