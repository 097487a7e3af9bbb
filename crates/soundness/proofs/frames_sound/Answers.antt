-- `soundness::frames_sound` meets its contract: what `all` answers of the numbers below the count is `every`.
use mathlib.Core.Path.{refl}
use borrow.Author.Rules.{rules}
use borrow.Author.Tests.{tests}
use Rattle.memory.specs.Tables.{frame_ok}
use Rattle.soundness.proofs.Ranges.{all_over}
use Rattle.soundness.proofs.frames_sound.Goals as goal

pub returns : goal.returns
unfolding frame_ok
returns c = all_over c.args.d (frame_ok c.args.frames.now c.args.d c.args.counter) _ refl c.all.ensures.ran (λ x q k. search (rules, tests)) (λ x q k. search (rules, tests))
