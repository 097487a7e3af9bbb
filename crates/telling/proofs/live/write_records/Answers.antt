-- `live::write_records` meets its contract: the records that are left, put after those that are, are all of them.
use Rattle.std.proofs.Common.{Some}
use Rattle.words.specs.Text.{text}
use Rattle.by_hand.proofs.Showing.{more-each, no_more_each, stopped-each}
use Rattle.telling.specs.Listed.{record_at}
use Rattle.telling.proofs.live.write_records.Goals as goal

pub returns-in_err-at : goal.returns-in_err-at
returns-in_err-at c =
    let a = c.args in
    let l = c.loop-p in
    rw c.from_residual.ensures
    (stopped-each a.count l.p (record_at a.live.now a.frame.now a.allocation.now a.offset.now) (text (Some l.at) l.out) _ c.loop-p-test.true c.in_err-at.ensures l.invariant)

pub loop-p-preserved : goal.loop-p-preserved
loop-p-preserved c =
    let a = c.args in
    let l = c.loop-p in
    more-each a.count l.p (record_at a.live.now a.frame.now a.allocation.now a.offset.now) (text (Some l.at) l.out) c.loop-p-test.true c.in_ok-at.ensures l.invariant

pub returns : goal.returns
returns c =
    let a = c.args in
    let l = c.loop-p in
    no_more_each a.count l.p (record_at a.live.now a.frame.now a.allocation.now a.offset.now) (text (Some l.at) l.out) c.loop-p-test.false l.invariant
