-- `dump::write_frame` meets its contract: the lengths after the head, or nothing more.
use Rattle.std.proofs.Common.{sym, ap, ◌∙◌}
use Rattle.words.specs.Text.{puts}
use Rattle.words.proofs.Whole.{nones_stay}
use Rattle.answers.specs.Dump.{lengths_text}
use Rattle.answers.proofs.dump.write_frame.Goals as goal

pub returns-in_err-at : goal.returns-in_err-at
returns-in_err-at c =
    let ps = lengths_text c.args.lengths.now in
    rw c.from_residual.ensures (sym (nones_stay ps _) ∙ ap (puts ps) c.in_err-at.ensures)
