-- `pass_block` meets its contract: each call of its closure passes one part.
use Rattle.std.proofs.Common.{rules}
use Rattle.image_writer.specs.Past.{past_instruction}
use Rattle.image_writer.proofs.writer.pass_block.Goals as goal

pub returns : goal.returns
returns c = c.pass_list.ensures (past_instruction c.args.image.now) (λ out d r after h. search rules)
