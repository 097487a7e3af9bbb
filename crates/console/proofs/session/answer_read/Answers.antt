-- `session::answer_read` meets its contract: what was read is done.
use Rattle.console.proofs.Turning.{is_unread}
use Rattle.console.proofs.session.answer_read.Goals as goal

pub returns-in-Err : goal.returns-in-Err
returns-in-Err c = is_unread _ _ _ _ _ _ _ _ c.in-Err.is c.write_unread.ensures c.tell.ensures c.turn.ensures
