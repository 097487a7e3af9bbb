-- `dump::write_variables` meets its contract: where its head has no room, nothing after it is put.
use Rattle.by_hand.proofs.Showing.{variables-stop}
use Rattle.by_hand.proofs.dump.write_variables.Goals as goal

pub returns-in_err-at : goal.returns-in_err-at
returns-in_err-at c = rw c.from_residual.ensures (variables-stop c.args.vars.now _ _ c.in_err-at.ensures)
