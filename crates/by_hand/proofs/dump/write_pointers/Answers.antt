-- `dump::write_pointers` meets its contract: where the count has no room, nothing after it is put.
use Rattle.by_hand.proofs.Showing.{pointers-stop}
use Rattle.by_hand.proofs.dump.write_pointers.Goals as goal

pub returns-in_err-at : goal.returns-in_err-at
returns-in_err-at c = rw c.from_residual.ensures (pointers-stop c.args.count c.args.pointers.now _ _ c.in_err-at.ensures)
