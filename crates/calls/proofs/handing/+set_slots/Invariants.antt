-- The measure of `set_slots` is how many slots are left.
use Rattle.calls.proofs.handing.+set_slots.Given as goal

abbrev pub decreases-set_slots : goal.decreases-set_slots
decreases-set_slots l = l.left
