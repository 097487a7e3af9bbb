-- `live_table` meets its contract: what `tell` answers is what the walk needs.
use Rattle.std.proofs.Common.{rules, arith, ◌≡◌, Err}
use Rattle.live_table.proofs.Listed.{none_written, has_room, told_more, told_written}
use Rattle.live_table.proofs.live_table.Goals as goal

pub returns-in_err-n : goal.returns-in_err-n
returns-in_err-n c =
    let is : c.from_residual.result ≡ Err c.in_err-n.field-0.0 = search rules in
    rw is (none_written _ _ _ c.in_err-n.ensures)

pub offset_bounds-table-k : goal.offset_bounds-table-k
offset_bounds-table-k c = let h = has_room _ _ _ c.in_ok-n.ensures _ c.loop-k-test.true in omega arith

pub bounds-table-k : goal.bounds-table-k
bounds-table-k c = let h = has_room _ _ _ c.in_ok-n.ensures _ c.loop-k-test.true in omega arith

pub loop-k-preserved : goal.loop-k-preserved
loop-k-preserved c = told_more _ _ _ c.in_ok-n.ensures _ _ _ c.loop-k-test.true c.loop-k.invariant c.from.ensures c.record_at.ensures

pub returns : goal.returns
returns c = told_written _ _ _ c.in_ok-n.ensures _ _ (omega arith) c.loop-k.invariant
