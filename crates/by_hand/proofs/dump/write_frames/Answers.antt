-- `dump::write_frames` meets its contract: the frames that are left, put after those that are, are all of them.
use Rattle.std.specs.Prelude.{Some}
use Rattle.words.specs.Text.{text}
use Rattle.by_hand.specs.State.{frame_at}
use Rattle.by_hand.proofs.Showing.{more-each, stopped-each, no_more_each}
use Rattle.by_hand.proofs.dump.write_frames.Goals as goal

pub returns-in_err-at : goal.returns-in_err-at
returns-in_err-at c =
    let l = c.loop-i in
    rw c.from_residual.ensures (stopped-each (c.min-i-end.result) l.i (frame_at c.args.frames.now c.args.lengths.now) (text (Some l.at) l.out) _ c.loop-i-test.true c.in_err-at.ensures l.invariant)

pub loop-i-preserved : goal.loop-i-preserved
loop-i-preserved c =
    let l = c.loop-i in
    more-each (c.min-i-end.result) l.i (frame_at c.args.frames.now c.args.lengths.now) (text (Some l.at) l.out) c.loop-i-test.true c.in_ok-at.ensures l.invariant

pub returns : goal.returns
returns c =
    let l = c.loop-i in
    no_more_each (c.min-i-end.result) l.i (frame_at c.args.frames.now c.args.lengths.now) (text (Some l.at) l.out) c.loop-i-test.false l.invariant
