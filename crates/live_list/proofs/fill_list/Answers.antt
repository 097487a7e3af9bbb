-- `live_list::fill_list` meets its contract: a turn puts one record more.
use mathlib.Core.Path.{refl}
use Rattle.memory.specs.Tables.{columns, filled}
use Rattle.live_list.proofs.Listed.{filled_more}
use Rattle.live_list.proofs.fill_list.Goals as goal

pub loop-i-init : goal.loop-i-init
unfolding filled
loop-i-init c = refl

pub loop-i-preserved : goal.loop-i-preserved
loop-i-preserved c =
    let a = c.args in
    filled_more a.d c.loop-i.i a.frames.now a.pointers.now a.live.now a.frame.now a.allocation.now a.offset.now
    (columns c.loop-i.live c.loop-i.frame c.loop-i.allocation c.loop-i.offset) _ c.loop-i.invariant c.live_record-r.ensures
