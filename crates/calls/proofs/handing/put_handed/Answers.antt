-- What was sure before each part is sure after it.
use Rattle.calls.proofs.Sure.{sure_context, sure_arguments}
use Rattle.calls.proofs.handing.put_handed.Goals as goal

pub put_context-requires : goal.put_context-requires
put_context-requires c = sure_context _ _ _ _ _ c.requires c.put_pointer.ensures

pub put_arguments-requires : goal.put_arguments-requires
put_arguments-requires c = sure_arguments _ _ _ _ _ _ c.requires c.put_pointer.ensures c.put_context.ensures
