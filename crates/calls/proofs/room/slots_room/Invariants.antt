-- The loop's invariant: what is left of the slots has the room that all of them have.
use Prim.Native.Nat.{◌-◌}
use mathlib.Core.Path.{◌≡◌}
use Rattle.calls.specs.Room.{slots_room_of}
use Rattle.calls.proofs.room.slots_room.Given as goal

abbrev pub invariant-loop : goal.invariant-loop
invariant-loop l =
    slots_room_of l.fn.image (l.fn.count - l.counter) l.at l.allocations l.bytes l.pointers ≡ slots_room_of l.fn.image l.fn.count l.fn.start l.fn.live l.fn.used l.fn.given
