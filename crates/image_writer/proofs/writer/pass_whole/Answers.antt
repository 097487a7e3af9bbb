-- `pass_whole` meets its contract: the header's numbers, and what they count.
use Rattle.image_writer.proofs.Keeps.{whole-passed}
use Rattle.image_writer.proofs.writer.pass_whole.Goals as goal

pub returns : goal.returns
returns c =
    whole-passed c.pass_numbers-variables.ensures c.pass_number-constants.ensures.passed c.pass_number-functions.ensures.passed c.pass_number-blocks.ensures.passed
    c.pass_number-constants.ensures.number c.pass_number-functions.ensures.number c.pass_number-blocks.ensures.number c.pass_parts.ensures
