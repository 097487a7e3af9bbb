-- `soundness::variables_sound` meets its contract: what `all` answers of the numbers below the count is `every`.
use mathlib.Core.Path.{refl}
use borrow.Author.Rules.{rules}
use borrow.Author.Tests.{tests}
use Rattle.memory.specs.Tables.{variable_ok}
use Rattle.soundness.proofs.Ranges.{all_over}
use Rattle.soundness.proofs.variables_sound.Goals as goal

pub returns : goal.returns
unfolding variable_ok
returns c = all_over 256 (variable_ok c.args.variables.now) _ refl c.all.ensures.ran (λ x q k. search (rules, tests)) (λ x q k. search (rules, tests))
