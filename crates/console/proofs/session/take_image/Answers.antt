-- `session::take_image` meets its contract: the bytes that have room stand at the start.
use Rattle.console.proofs.Turning.{image-put}
use Rattle.console.proofs.session.take_image.Goals as goal

pub returns : goal.returns
returns c = image-put _ _ _ c.least-room.ensures c.within-n.ensures.value c.write_bytes.ensures
