-- `poke::put_constants` meets its contract: the pointers that are left make up all of them.
use Rattle.by_hand.proofs.Changing.{one_more_lem, no_more}
use Rattle.by_hand.proofs.poke.put_constants.Goals as goal

pub loop-p-preserved : goal.loop-p-preserved
loop-p-preserved c = one_more_lem _ _ _ _ c.loop-p-test.true c.put_pointer.ensures c.loop-p.invariant

pub returns : goal.returns
returns c = no_more _ _ _ _ c.loop-p-test.false c.loop-p.invariant
