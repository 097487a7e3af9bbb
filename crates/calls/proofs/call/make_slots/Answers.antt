-- What is left of the slots makes what all of them make, also where the next one is refused.
use Rattle.std.proofs.Common.{rules, ◌≡◌, Err}
use Rattle.std.specs.Prelude.{Err}
use mathlib.Core.Path.{◌≡◌, ◌∙◌}
use Rattle.calls.proofs.Enters.{made_on, made_stop}
use Rattle.calls.proofs.call.make_slots.Goals as goal

pub returns-in_err-more : goal.returns-in_err-more
returns-in_err-more c =
    let is : c.from_residual.result ≡ Err c.in_err-more.field-0.0 = search rules in
    rw is (made_stop _ _ _ _ _ _ _ _ _ _ _ c.loop-test.true c.read_slot-slot.ensures c.in_err-more.ensures ∙ c.loop.invariant)

pub loop-preserved : goal.loop-preserved
loop-preserved c = made_on _ _ _ _ _ _ _ _ _ _ _ _ c.loop-test.true c.read_slot-slot.ensures c.in_ok-more.ensures ∙ c.loop.invariant
