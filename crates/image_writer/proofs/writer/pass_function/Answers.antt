-- `pass_function` meets its contract: its fields one after another.
use Rattle.std.proofs.Common.{rules}
use Rattle.image_writer.specs.Past.{past_number, past_function}
use Rattle.image_writer.proofs.Keeps.{then_passed}
use Rattle.image_writer.proofs.writer.pass_function.Goals as goal

pub returns : goal.returns
unfolding past_function
returns c =
    then_passed (then_passed c.pass_numbers-flag.ensures (c.pass_list-parameters.ensures (past_number c.args.image.now) (λ out d r after h. search rules))) c.pass_pair_list.ensures
