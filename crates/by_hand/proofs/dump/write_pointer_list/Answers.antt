-- `dump::write_pointer_list` meets its contract: the pointers that are left, put after those that are, are all of them.
use Rattle.std.specs.Prelude.{Some}
use Rattle.words.specs.Text.{text}
use Rattle.by_hand.specs.State.{pointer_at}
use Rattle.by_hand.proofs.Showing.{more-each, stopped-each, no_more_each}
use Rattle.by_hand.proofs.dump.write_pointer_list.Goals as goal

pub returns-in_err-at : goal.returns-in_err-at
returns-in_err-at c =
    let l = c.loop-p in
    rw c.from_residual.ensures (stopped-each (c.args.count) l.p (pointer_at c.args.pointers.now) (text (Some l.at) l.out) _ c.loop-p-test.true c.in_err-at.ensures l.invariant)

pub loop-p-preserved : goal.loop-p-preserved
loop-p-preserved c =
    let l = c.loop-p in
    more-each (c.args.count) l.p (pointer_at c.args.pointers.now) (text (Some l.at) l.out) c.loop-p-test.true c.in_ok-at.ensures l.invariant

pub returns : goal.returns
returns c =
    let l = c.loop-p in
    no_more_each (c.args.count) l.p (pointer_at c.args.pointers.now) (text (Some l.at) l.out) c.loop-p-test.false l.invariant
