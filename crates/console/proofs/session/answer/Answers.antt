-- `session::answer` meets its contract: too long, or read.
use Rattle.console.proofs.Turning.{is-long, is-line}
use Rattle.console.proofs.session.answer.Goals as goal

pub returns-then-line-gt-LONGEST : goal.returns-then-line-gt-LONGEST
returns-then-line-gt-LONGEST c = is-long _ _ _ _ _ _ c.if-line-gt-LONGEST.true c.write_unread.ensures c.tell.ensures c.turn.ensures

pub returns : goal.returns
returns c = is-line _ _ _ _ _ _ c.if-line-gt-LONGEST.false c.read_line-asked.ensures c.answer_read.ensures
