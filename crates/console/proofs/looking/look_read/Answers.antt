-- `looking::look_read` meets its contract: the buffer has as much room as was asked.
use Rattle.console.proofs.Turning.{read-shown}
use Rattle.console.proofs.looking.look_read.Goals as goal

pub returns : goal.returns
returns c = read-shown _ _ _ _ _ c.within-size.ensures.value c.read_into.ensures
