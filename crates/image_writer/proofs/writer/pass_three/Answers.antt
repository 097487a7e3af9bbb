-- `pass_three` meets its contract: its fields one after another.
use Rattle.image_writer.specs.Past.{past_three}
use Rattle.image_writer.proofs.Keeps.{then_passed}
use Rattle.image_writer.proofs.writer.pass_three.Goals as goal

pub returns : goal.returns
unfolding past_three
returns c = then_passed (then_passed c.pass_number-to.ensures.passed c.pass_pair-left.ensures) c.pass_pair.ensures
