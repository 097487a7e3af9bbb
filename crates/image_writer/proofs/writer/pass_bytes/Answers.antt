-- `pass_bytes` meets its contract: a number, and what it announces.
use Rattle.image_writer.proofs.Keeps.{bytes-passed}
use Rattle.image_writer.proofs.writer.pass_bytes.Goals as goal

pub returns : goal.returns
returns c = bytes-passed c.pass_number-count.ensures.passed c.pass_number-count.ensures.number c.pass_raw.ensures
