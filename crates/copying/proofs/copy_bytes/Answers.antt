-- `copy_bytes`: a refused read is the copy's answer, by `not_copied`.
use Rattle.std.proofs.Common.{rules, ◌≡◌, Err, sym}
use Rattle.memory.proofs.Copied.{not_copied}
use Rattle.copying.proofs.copy_bytes.Goals as goal

pub returns-in_err-at : goal.returns-in_err-at
returns-in_err-at c =
    let is : c.from_residual.result ≡ Err c.in_err-at.field-0.0 = search rules in
    rw is (sym (not_copied _ _ _ _ _ _ _ (sym c.in_err-at.ensures)))
