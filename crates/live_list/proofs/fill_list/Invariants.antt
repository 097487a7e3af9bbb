-- `live_list::fill_list` meets its contract: each slice is filled up to the loop's place, and as it was beyond.
use Rattle.memory.specs.Tables.{columns, filled_of}
use mathlib.Core.Path.{◌≡◌}
use Rattle.live_list.proofs.fill_list.Given as goal

abbrev pub invariant-loop-i : goal.invariant-loop-i
invariant-loop-i l =
    columns l.live l.frame l.allocation l.offset ≡ filled_of l.d l.i l.frames l.pointers l.initial.live l.initial.frame l.initial.allocation l.initial.offset
