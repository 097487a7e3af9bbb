-- `start::are_values` meets its contract: what `all` answers of the places of the tags is `every`.
use mathlib.Core.Path.{refl}
use borrow.Author.Rules.{rules}
use borrow.Author.Tests.{tests}
use lib.ListN.{length}
use Rattle.eval.specs.Start.{value_at}
use Rattle.soundness.proofs.Ranges.{all_over}
use Rattle.eval.proofs.start.are_values.Goals as goal

pub returns : goal.returns
returns c = all_over (length c.args.tags.now) (value_at c.args.tags.now c.args.bits.now) _ refl c.all.ensures.ran (λ x q k. search (rules, tests)) (λ x q k. search (rules, tests))
