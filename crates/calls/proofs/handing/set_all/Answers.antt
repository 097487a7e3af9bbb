-- A Call that is sure stays sure while the slots' variables are set.
use Rattle.calls.proofs.Sure.{sure_pointed}
use Rattle.calls.proofs.handing.set_all.Goals as goal

pub put_handed-requires : goal.put_handed-requires
put_handed-requires c = sure_pointed _ _ _ _ _ _ _ c.point.ensures (c.is_sure.ensures c.if-is_sure.true)
