-- Where the rest is refused, the old words put back are the table as it stood.
use Rattle.std.proofs.Common.{rules, ◌≡◌, Err}
use Rattle.std.specs.Prelude.{Err}
use mathlib.Core.Path.{◌≡◌, ap, ◌∙◌}
use Rattle.calls.specs.Variables.{all_or_nothing}
use Rattle.calls.proofs.Sets.{pointer_on_lem, pointer_refused}
use Rattle.calls.proofs.Undo.{undone}
use Rattle.calls.proofs.variables.set_pointer.Goals as goal

pub returns-in_err-v : goal.returns-in_err-v
unfolding all_or_nothing
returns-in_err-v c =
    let is : c.from_residual.result ≡ Err c.in_err-v.field-0.0 = search rules in
    rw is (ap (all_or_nothing _) (pointer_refused _ _ _ _ _ _ _ c.in-Some.is c.read_variable.ensures c.in_err-v.was))

pub returns : goal.returns
returns c = undone _ _ _ _ _ _ _ _ _ _ c.held-old.ensures c.set_variable.ensures c.set_context-rest.ensures c.undo.ensures ∙ ap (all_or_nothing _) (pointer_on_lem _ _ _ _ _ _ _ _ c.in-Some.is c.read_variable.ensures c.in_ok-v.was c.set_variable.ensures)
