-- `pass_copy` meets its contract: its fields one after another.
use Rattle.image_writer.specs.Past.{past_copy}
use Rattle.image_writer.proofs.Keeps.{then_passed}
use Rattle.image_writer.proofs.writer.pass_copy.Goals as goal

pub returns : goal.returns
unfolding past_copy
returns c = then_passed (then_passed c.pass_pair-to.ensures c.pass_pair-from.ensures) c.pass_number.ensures.passed
