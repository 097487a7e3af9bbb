-- `line::write_taken` meets its contract: each piece is put after the one before it, or nothing more is.
use Rattle.words.proofs.Whole.{none_stays}
use Rattle.answers.proofs.line.write_taken.Goals as goal

pub returns-in_err-at-2 : goal.returns-in_err-at-2
returns-in_err-at-2 c = rw (c.from_residual-in_err-at-2.ensures, ← c.in_ok-at.ensures, ← c.in_err-at-2.ensures) (simp none_stays)

pub returns-in_err-at-3 : goal.returns-in_err-at-3
returns-in_err-at-3 c = rw (c.from_residual-in_err-at-3.ensures, ← c.in_ok-at.ensures, ← c.in_ok-at-2.ensures, ← c.in_err-at-3.ensures) (simp none_stays)

pub returns : goal.returns
returns c = rw (← c.in_ok-at.ensures, ← c.in_ok-at-2.ensures, ← c.in_ok-at-3.ensures) c.write_bytes.ensures
