-- `not`: a Bool is itself, by `not_is`, and no other value has an answer.
use Rattle.std.proofs.Common.{rules}
use Rattle.value.specs.Answer.{need}
use Rattle.value.specs.Ir.{value_of, computed}
use Rattle.value.specs.Value.{notted, tag}
use Rattle.comparing.proofs.compare.not.Goals as goal

pub returns-in_default : goal.returns-in_default
unfolding value_of computed notted tag need
returns-in_default c = search rules
