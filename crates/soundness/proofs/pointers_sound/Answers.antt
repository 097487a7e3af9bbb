-- `soundness::pointers_sound` meets its contract: what `all` answers of the numbers below the count is `every`.
use mathlib.Core.Path.{refl}
use borrow.Author.Rules.{rules}
use borrow.Author.Tests.{tests}
use Rattle.memory.specs.Tables.{pointer_at, pointer_ok, pointers_ok}
use Rattle.soundness.proofs.Ranges.{all_over}
use Rattle.soundness.proofs.pointers_sound.Goals as goal

pub returns : goal.returns
unfolding pointers_ok pointer_ok pointer_at
returns c = all_over c.args.n (pointers_ok c.args.pointers.now) _ refl c.all.ensures.ran (λ x q k. search (rules, tests)) (λ x q k. search (rules, tests))
