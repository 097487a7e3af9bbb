-- `live::write_list` meets its contract: the count, the records and the end, as far as they have room.
use Rattle.std.proofs.Common.{◌++◌, sym, ap, ◌∙◌}
use Rattle.words.specs.Text.{puts}
use Rattle.words.proofs.Whole.{nones_stay}
use Rattle.answers.specs.Lines.{Pieces, ending}
use Rattle.answers.proofs.Parts.{puts-append}
use Rattle.by_hand.specs.State.{each}
use Rattle.telling.specs.Listed.{record_at}
use Rattle.telling.proofs.live.write_list.Goals as goal

pub returns-in_err-at : goal.returns-in_err-at
returns-in_err-at c =
    let a = c.args in
    let rows : Pieces = each a.count 0 (record_at a.live.now a.frame.now a.allocation.now a.offset.now) in
    rw c.from_residual.ensures (sym (nones_stay (rows ++ ending) _) ∙ ap (puts (rows ++ ending)) c.in_err-at.ensures)

pub returns-in_err-at-2 : goal.returns-in_err-at-2
returns-in_err-at-2 c =
    let a = c.args in
    let rows : Pieces = each a.count 0 (record_at a.live.now a.frame.now a.allocation.now a.offset.now) in
    rw c.from_residual-in_err-at-2.ensures
    (sym (nones_stay ending _) ∙ ap (puts ending) (c.in_err-at-2.ensures ∙ ap (puts rows) c.in_ok-at.ensures) ∙ sym (puts-append rows ending _))

pub returns : goal.returns
returns c =
    let a = c.args in
    let rows : Pieces = each a.count 0 (record_at a.live.now a.frame.now a.allocation.now a.offset.now) in
    c.write_bytes.ensures ∙ ap (puts ending) (c.in_ok-at-2.ensures ∙ ap (puts rows) c.in_ok-at.ensures) ∙ sym (puts-append rows ending _)
