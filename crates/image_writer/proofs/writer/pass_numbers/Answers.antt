-- `pass_numbers` meets its contract: each call of its closure passes one part.
use Rattle.std.proofs.Common.{rules}
use Rattle.image_writer.specs.Past.{past_number}
use Rattle.image_writer.proofs.writer.pass_numbers.Goals as goal

pub returns : goal.returns
returns c = c.pass_times.ensures c.args.image.now (past_number c.args.image.now) (λ out d r after h. search rules)
