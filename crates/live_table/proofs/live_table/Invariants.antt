-- `live_table` meets its contract: the records written so far are the first of the list, and the rest of the table is as it stood.
use mathlib.Core.Path.{◌≡◌}
use Rattle.memory.specs.Tables.{tables}
use Rattle.live_table.specs.Table.{record_at, filled}
use Rattle.live_table.proofs.live_table.Given as goal

abbrev pub invariant-loop-k : goal.invariant-loop-k
invariant-loop-k l = l.table ≡ filled l.k (record_at (tables l.m l.store l.frames l.bounds l.pointers)) l.initial.table
