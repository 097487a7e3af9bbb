-- `take_line` meets its contract: nothing is left, or the line ends or goes on.
use Rattle.lines.proofs.Keeping.{in_input, nothing_left, line-ends, line_goes_on}
use Rattle.lines.proofs.take_line.Goals as goal

pub returns-then-input-at : goal.returns-then-input-at
returns-then-input-at c = nothing_left _ _ _ _ _ c.min-from.ensures c.if-input-at.true

pub slice_bounds-copy_from_slice-end-2 : goal.slice_bounds-copy_from_slice-end-2
slice_bounds-copy_from_slice-end-2 c = in_input _ _ _ _ _ c.min-from.ensures _ _ c.if-input-at.false c.find-end.ensures c.min-n.ensures

pub returns-then-whole : goal.returns-then-whole
returns-then-whole c = line-ends _ _ _ _ _ c.min-from.ensures _ _ c.if-input-at.false c.find-end.ensures c.min-n.ensures c.if-whole.true c.copy_from_slice.ensures.after

pub returns-else-whole : goal.returns-else-whole
returns-else-whole c = line_goes_on _ _ _ _ _ c.min-from.ensures _ _ c.if-input-at.false c.find-end.ensures c.min-n.ensures c.if-whole.false c.copy_from_slice.ensures.after
