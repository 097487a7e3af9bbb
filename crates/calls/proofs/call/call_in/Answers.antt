-- A Call with room: the variables first, then the frame and the slots; each refusal is the definition's.
use Rattle.std.proofs.Common.{rules, ◌≡◌, Err}
use Rattle.std.specs.Prelude.{Err}
use mathlib.Core.Path.{◌≡◌}
use Rattle.calls.proofs.Enters.{call_made, call_full, call_stop}
use Rattle.calls.proofs.call.call_in.Goals as goal

pub returns-in_err-set_all : goal.returns-in_err-set_all
returns-in_err-set_all c =
    let is : c.from_residual-in_err-set_all.result ≡ Err c.in_err-set_all.field-0.0 = search rules in
    rw is (call_stop _ _ _ _ _ _ _ _ (c.in_ok-call_room.ensures, c.in_err-set_all.ensures))

pub returns-in_err-inside : goal.returns-in_err-inside
returns-in_err-inside c =
    let is : c.from_residual-in_err-inside.result ≡ Err c.in_err-inside.field-0.0 = search rules in
    rw is (call_full _ _ _ _ _ _ _ _ _ _ _ _ (c.in_ok-call_room.ensures, c.in_ok-set_all.ensures) c.in_err-inside.ensures)

pub returns : goal.returns
returns c = call_made _ _ _ _ _ _ _ _ _ _ _ _ (c.in_ok-call_room.ensures, c.in_ok-set_all.ensures) c.in_ok-inside.ensures
