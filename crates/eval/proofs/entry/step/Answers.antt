-- `entry::step` meets its contract: a run whose budget is one is a step.
use Rattle.eval.proofs.Tabled.{one_step_is}
use Rattle.eval.proofs.entry.step.Goals as goal

pub returns : goal.returns
returns c = one_step_is _ _ _ _ _ _ _ _ _ c.one_step.ensures c.run.ensures
