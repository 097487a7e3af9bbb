-- `live::write_records` meets its contract: the records that are left, put after those that are, are all of them.
use Rattle.std.proofs.Common.{◌≡◌, ◌-◌, Some}
use Rattle.words.specs.Text.{text, puts}
use Rattle.by_hand.specs.State.{each}
use Rattle.telling.specs.Listed.{record_at}
use Rattle.telling.proofs.live.write_records.Given as goal

abbrev pub invariant-loop-p : goal.invariant-loop-p
invariant-loop-p l = puts (each (l.count - l.p) l.p (record_at l.live l.frame l.allocation l.offset)) (text (Some l.at) l.out) ≡ puts (each l.count 0 (record_at l.live l.frame l.allocation l.offset)) (text (Some l.initial.at) l.initial.out)
