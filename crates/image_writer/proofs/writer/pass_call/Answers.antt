-- `pass_call` meets its contract: its fields one after another.
use Rattle.std.proofs.Common.{rules}
use Rattle.image_writer.specs.Past.{past_number, past_call}
use Rattle.image_writer.proofs.Keeps.{then_passed}
use Rattle.image_writer.proofs.writer.pass_call.Goals as goal

pub returns : goal.returns
unfolding past_call
returns c =
    then_passed (then_passed (then_passed (then_passed c.pass_optional_pair-to.ensures c.pass_optional_pair-context.ensures) c.pass_number-function.ensures.passed) c.pass_pair_list-arguments.ensures)
    (c.pass_optional.ensures (past_number c.args.image.now) (λ out d r after h. search rules))
