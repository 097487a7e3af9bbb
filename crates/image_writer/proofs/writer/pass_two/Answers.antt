-- `pass_two` meets its contract: its fields one after another.
use Rattle.image_writer.specs.Past.{past_two}
use Rattle.image_writer.proofs.Keeps.{then_passed}
use Rattle.image_writer.proofs.writer.pass_two.Goals as goal

pub returns : goal.returns
unfolding past_two
returns c = then_passed c.pass_number-to.ensures.passed c.pass_pair.ensures
