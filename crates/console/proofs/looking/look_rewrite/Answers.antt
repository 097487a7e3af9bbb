-- `looking::look_rewrite` meets its contract: the buffer has as much room as was asked.
use Rattle.console.proofs.Turning.{rewrite-shown}
use Rattle.console.proofs.looking.look_rewrite.Goals as goal

pub returns : goal.returns
returns c = rewrite-shown _ _ _ _ c.within-room.ensures.value c.rewrite_into.ensures
