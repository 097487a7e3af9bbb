-- `changing::perform_write` meets its contract: what was written is told.
use Rattle.console.proofs.Turning.{write-tells}
use Rattle.console.proofs.changing.perform_write.Goals as goal

pub returns : goal.returns
returns c = write-tells _ _ _ _ c.tell.ensures c.within-size.ensures.value c.host_write-o.ensures c.write_outcome.ensures
