-- `begin::begin` meets its contract: the first value is the context, and the others are the arguments.
use Rattle.telling.proofs.Starting.{begins}
use Rattle.telling.proofs.begin.begin.Goals as goal

pub returns : goal.returns
returns c = begins _ _ _ _ _ _ c.word_at.ensures c.word_at-2.ensures c.least.ensures c.least-end.ensures c.least-from.ensures c.start.ensures
