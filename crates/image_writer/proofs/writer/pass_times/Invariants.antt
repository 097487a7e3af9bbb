-- `pass_times` meets its contract: after i turns so many parts are passed.
use Rattle.std.proofs.Common.{ℕ, List}
use Rattle.image_writer.specs.Answer.{Passed, Passes}
use Rattle.image_writer.specs.Past.{times}
use Rattle.image_writer.proofs.writer.pass_times.Given as goal

abbrev pub invariant-loop : goal.invariant-loop
invariant-loop g l =
    (s : List ℕ) (past : ℕ → ℕ) → Passes s past (λ out c r after. g.F.Fn.post l.part (out, (c, tt)) (r, (after, tt)))
    → Passed s (times l.counter past) l.fn.start l.fn.out l.c l.out
