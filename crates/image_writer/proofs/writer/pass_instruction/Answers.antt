-- `pass_instruction` meets its contract: a number, and what it announces.
use Rattle.image_writer.proofs.Keeps.{fields-passed}
use Rattle.image_writer.proofs.writer.pass_instruction.Goals as goal

pub returns : goal.returns
returns c = fields-passed c.pass_number-opcode.ensures.passed c.pass_number-opcode.ensures.number c.pass_fields.ensures
