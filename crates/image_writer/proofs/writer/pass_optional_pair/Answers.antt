-- `pass_optional_pair` meets its contract: each call of its closure passes one part.
use Rattle.std.proofs.Common.{rules}
use Rattle.image_writer.specs.Past.{past_pair}
use Rattle.image_writer.proofs.writer.pass_optional_pair.Goals as goal

pub returns : goal.returns
returns c = c.pass_optional.ensures (past_pair c.args.image.now) (λ out d r after h. search rules)
