-- `pass_parts` meets its contract: its parts one after another.
use Rattle.std.proofs.Common.{rules}
use Rattle.image_writer.specs.Past.{past_list, past_bytes, past_instruction, past_function, past_parts}
use Rattle.image_writer.proofs.Keeps.{then_passed}
use Rattle.image_writer.proofs.writer.pass_parts.Goals as goal

pub returns : goal.returns
unfolding past_parts
returns c =
    let s = c.args.image.now in
    then_passed (then_passed (c.pass_times-raw.ensures s (past_bytes s) (λ out d r after h. search rules)) (c.pass_times-code.ensures s (past_function s) (λ out d r after h. search rules)))
    (c.pass_times.ensures s (past_list s (past_instruction s)) (λ out d r after h. search rules))
