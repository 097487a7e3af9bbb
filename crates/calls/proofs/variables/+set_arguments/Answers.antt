-- Where the rest is refused, the old words put back are the table as it stood.
use Rattle.std.proofs.Common.{rules, ◌≡◌, Err}
use Rattle.std.specs.Prelude.{Err}
use mathlib.Core.Path.{◌≡◌, ap, sym, ◌∙◌}
use Rattle.calls.specs.Variables.{all_or_nothing}
use Rattle.calls.proofs.Sets.{arguments_on, arguments_refused}
use Rattle.calls.proofs.Undo.{undone}
use Rattle.calls.proofs.variables.+set_arguments.Goals as goal

pub returns-in_err-v : goal.returns-in_err-v
unfolding all_or_nothing
returns-in_err-v t c =
    let is : c.from_residual.result ≡ Err c.in_err-v.field-0.0 = search rules in
    rw is (ap (all_or_nothing _) (sym (arguments_refused _ _ _ _ _ _ _ _ _ c.if-wanted-eq0.false c.if-given-eq0.false c.read_operand-from.ensures c.evaluate.ensures c.in_err-v.was)))

pub returns : goal.returns
returns t c = undone _ _ _ _ _ _ _ _ _ _ c.held-old.ensures c.set_variable.ensures c.set_arguments-rest.ensures c.undo.ensures ∙ ap (all_or_nothing _) (arguments_on _ _ _ _ _ _ _ _ _ _ _ c.if-wanted-eq0.false c.if-given-eq0.false c.read_field-to.ensures c.read_operand-from.ensures c.evaluate.ensures c.in_ok-v.was c.set_variable.ensures)
