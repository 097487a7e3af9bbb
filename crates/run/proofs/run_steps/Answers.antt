-- The last step of a run, and one that is refused: what the whole run gives.
use Rattle.std.proofs.Common.{rules, arith, ◌≡◌, Ok}
use mathlib.Core.Path.{sym, ◌∙◌}
use Rattle.instruction.specs.declared.step.Progress.TheVariants.{Ended}
use Rattle.run.proofs.Turns.{ended_of, refused_of}
use Rattle.run.proofs.run_steps.Goals as goal

pub returns-in-Ok-Ended : goal.returns-in-Ok-Ended
returns-in-Ok-Ended c =
    let is : c.step_at-next.result ≡ Ok (Ended c.in-Ok-Ended.n c.in-Ok-Ended.v) = search rules in
    sym (ended_of _ _ _ _ (omega arith) _ _ _ _ _ _ _ _ is c.step_at-next.ensures) ∙ c.loop-done.invariant

pub returns-in-Err : goal.returns-in-Err
returns-in-Err c = sym (refused_of _ _ _ _ (omega arith) _ _ _ _ _ _ _ c.in-Err.is c.step_at-next.ensures) ∙ c.loop-done.invariant
