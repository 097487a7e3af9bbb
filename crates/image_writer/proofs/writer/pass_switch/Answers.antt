-- `pass_switch` meets its contract: its fields one after another.
use Rattle.image_writer.specs.Past.{past_switch}
use Rattle.image_writer.proofs.Keeps.{then_passed}
use Rattle.image_writer.proofs.writer.pass_switch.Goals as goal

pub returns : goal.returns
unfolding past_switch
returns c = then_passed (then_passed c.pass_pair-examinee.ensures c.pass_pair_list-branches.ensures) c.pass_number.ensures.passed
