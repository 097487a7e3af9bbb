-- `start_line::answer_start` meets its contract: too long, not read, or run.
use mathlib.Core.Path.{refl}
use Rattle.once.proofs.Starting.{start-long, start_unread, start-runs}
use Rattle.once.proofs.start_line.answer_start.Goals as goal

pub returns-then-line-gt-LONGEST : goal.returns-then-line-gt-LONGEST
returns-then-line-gt-LONGEST c = start-long _ _ _ _ _ _ _ _ c.if-line-gt-LONGEST.true c.write_unread.ensures

pub returns-in-Err : goal.returns-in-Err
returns-in-Err c = start_unread _ _ _ _ _ _ _ _ c.if-line-gt-LONGEST.false refl c.read_start_line.ensures _ c.in-Err.is c.write_unread-in-Err.ensures

pub returns-in-Ok : goal.returns-in-Ok
returns-in-Ok c = start-runs _ _ _ _ _ _ _ _ c.if-line-gt-LONGEST.false refl c.read_start_line.ensures _ c.in-Ok.is c.run_fresh-r.ensures c.write_ran.ensures
