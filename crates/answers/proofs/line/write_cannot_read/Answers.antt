-- `line::write_cannot_read` meets its contract: each piece is put after the one before it, or nothing more is.
use Rattle.words.proofs.Whole.{none_stays}
use Rattle.answers.proofs.line.write_cannot_read.Goals as goal

pub returns-in_err-at : goal.returns-in_err-at
returns-in_err-at c = rw (c.from_residual.ensures, ← c.in_err-at.ensures) (simp none_stays)

pub returns : goal.returns
returns c = rw (← c.in_ok-at.ensures) c.write_bytes.ensures
