-- `many` meets its contract: after i turns the place is that after i fields.
use Rattle.std.proofs.Common.{ℕ, ◌≡◌, Result, Ok}
use Rattle.image.specs.Parse.{many}
use Rattle.image.specs.Answer.{shape, ending}
use Rattle.image.specs.declared.number.Stop.{Stop}
use Rattle.loader.proofs.many.Given as goal

abbrev pub invariant-loop : goal.invariant-loop
invariant-loop g l =
    (ends : ℕ → Result ℕ Stop) → ((at : ℕ) (r : Result ℕ Stop) → g.F.Fn.post l.field (at, tt) r → r ≡ ends at)
    → Ok l.at ≡ shape (many l.counter (ending ends) l.start)
