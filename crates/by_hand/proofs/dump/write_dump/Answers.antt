-- `dump::write_dump` meets its contract: the five parts, one after the other, as far as they have room.
use Rattle.by_hand.proofs.Showing.{state-stops, frames-stop, pointed_stop, varied_stop, dump-shown}
use Rattle.by_hand.proofs.dump.write_dump.Goals as goal

pub returns-in_err-at : goal.returns-in_err-at
returns-in_err-at c =
    let a = c.args in
    rw c.from_residual.ensures (state-stops a.m a.store.now a.frames.now a.bounds.now a.pointers.now a.vars.now _ _ c.in_err-at.ensures)

pub returns-in_err-at-2 : goal.returns-in_err-at-2
returns-in_err-at-2 c =
    let a = c.args in
    rw c.from_residual-in_err-at-2.ensures (frames-stop a.m a.store.now a.frames.now a.bounds.now a.pointers.now a.vars.now _ _ _ c.in_ok-at.ensures c.lengths_of-lengths.ensures _ c.in_err-at-2.ensures)

pub returns-in_err-at-3 : goal.returns-in_err-at-3
returns-in_err-at-3 c =
    let a = c.args in
    rw c.from_residual-in_err-at-3.ensures (pointed_stop a.m a.store.now a.frames.now a.bounds.now a.pointers.now a.vars.now _ _ _ c.in_ok-at.ensures c.lengths_of-lengths.ensures _ c.in_ok-at-2.ensures _ c.in_err-at-3.ensures)

pub returns-in_err-at-4 : goal.returns-in_err-at-4
returns-in_err-at-4 c =
    let a = c.args in
    rw c.from_residual-in_err-at-4.ensures (varied_stop a.m a.store.now a.frames.now a.bounds.now a.pointers.now a.vars.now _ _ _ c.in_ok-at.ensures c.lengths_of-lengths.ensures _ c.in_ok-at-2.ensures _ c.in_ok-at-3.ensures _ c.in_err-at-4.ensures)

pub returns : goal.returns
returns c =
    let a = c.args in
    dump-shown a.m a.store.now a.frames.now a.bounds.now a.pointers.now a.vars.now _ _ _ c.in_ok-at.ensures c.lengths_of-lengths.ensures _ c.in_ok-at-2.ensures _ c.in_ok-at-3.ensures _ _ _ c.in_ok-at-4.ensures c.live_bytes.ensures c.min-used.ensures c.write_store.ensures
