-- Where the rest is refused, the old words put back are the table as it stood.
use mathlib.Core.Path.{ap, ◌∙◌}
use Rattle.calls.specs.Variables.{all_or_nothing}
use Rattle.calls.proofs.Sets.{slots_on_lem}
use Rattle.calls.proofs.Undo.{undone}
use Rattle.calls.proofs.handing.+set_slots.Goals as goal

pub returns : goal.returns
returns t c = undone _ _ _ _ _ _ _ _ _ _ c.held-old.ensures c.set_variable.ensures c.set_slots-rest.ensures c.undo.ensures ∙ ap (all_or_nothing _) (slots_on_lem _ _ _ _ _ _ _ _ _ c.if-left-eq0.false c.read_slot-slot.ensures c.set_variable.ensures)
