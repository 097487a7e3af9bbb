-- `storage::read_typed` meets its contract: a refusal, or the value of the store's bytes at the place that was granted.
use Rattle.std.proofs.Common.{rules, ◌≡◌, Ok, Err}
use native.Mathlib.Omega.{arith}
use mathlib.Core.Path.{sym, ap, ◌∙◌}
use Rattle.instruction.specs.Compute.{found_of}
use Rattle.instruction.proofs.Through.{read_local, not_read, no_constant_lem}
use Rattle.instruction.proofs.storage.read_typed.Goals as goal

pub returns-in_err-at : goal.returns-in_err-at
returns-in_err-at c =
    let is : c.from_residual.result ≡ Err c.in_err-at.field-0.0 = search rules in
    is ∙ sym (ap found_of (not_read _ _ _ _ _ _ c.size-size.ensures _ (sym c.read_access.ensures ∙ c.in_err-at.was)))

pub returns-in_err-at-in-Constant : goal.returns-in_err-at-in-Constant
returns-in_err-at-in-Constant c =
    let is : c.from_residual-in_err-at-in-Constant.result ≡ Err c.in_err-at-in-Constant.field-0.0 = search rules in
    is ∙ sym (ap found_of (no_constant_lem _ _ _ _ _ _ c.size-size.ensures _ (sym c.read_access.ensures ∙ c.in_ok-at.was ∙ ap Ok c.in-Constant.is) _ (sym c.constant_access.ensures ∙ c.in_err-at-in-Constant.was)))

pub returns-in-Local : goal.returns-in-Local
returns-in-Local c =
    c.value_in.ensures
    ∙ read_local _ _ _ _ _ _ c.size-size.ensures _ (sym c.read_access.ensures ∙ c.in_ok-at.was ∙ ap Ok c.in-Local.is)
    (λ i. omega (arith, c.type_inv.store i))
