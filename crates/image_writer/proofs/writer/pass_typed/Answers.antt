-- `pass_typed` meets its contract: its fields one after another.
use Rattle.image_writer.specs.Past.{past_typed}
use Rattle.image_writer.proofs.Keeps.{then_passed}
use Rattle.image_writer.proofs.writer.pass_typed.Goals as goal

pub returns : goal.returns
unfolding past_typed
returns c = then_passed (then_passed c.pass_number-to.ensures.passed c.pass_pair-from.ensures) c.pass_number.ensures.passed
