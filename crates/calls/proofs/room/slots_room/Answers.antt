-- The first slot that has no room is refused, and so are all of them.
use Rattle.std.proofs.Common.{rules, ◌≡◌, Err}
use Rattle.std.specs.Prelude.{Err}
use mathlib.Core.Path.{◌≡◌, ◌∙◌}
use Rattle.calls.proofs.Rooms.{room_stop}
use Rattle.calls.proofs.room.slots_room.Goals as goal

pub returns-in_err-slot_room : goal.returns-in_err-slot_room
returns-in_err-slot_room c =
    let is : c.from_residual.result ≡ Err c.in_err-slot_room.field-0.0 = search rules in
    rw is (room_stop _ _ _ _ _ _ _ _ _ c.loop-test.true c.read_slot-slot.ensures c.in_err-slot_room.ensures ∙ c.loop.invariant)
