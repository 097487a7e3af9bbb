-- `pass_initialize` meets its contract: its fields one after another.
use Rattle.image_writer.specs.Past.{past_initialize}
use Rattle.image_writer.proofs.Keeps.{then_passed}
use Rattle.image_writer.proofs.writer.pass_initialize.Goals as goal

pub returns : goal.returns
unfolding past_initialize
returns c = then_passed (then_passed c.pass_number-to.ensures.passed c.pass_number-size.ensures.passed) c.pass_bytes.ensures
