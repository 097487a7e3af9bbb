-- `pass_write` meets its contract: its fields one after another.
use Rattle.image_writer.specs.Past.{past_write}
use Rattle.image_writer.proofs.Keeps.{then_passed}
use Rattle.image_writer.proofs.writer.pass_write.Goals as goal

pub returns : goal.returns
unfolding past_write
returns c = then_passed c.pass_pair-place.ensures c.pass_pair.ensures
