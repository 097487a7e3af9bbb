-- `copy_constant`: a constant that is refused is the copy's answer, by `constant-not`.
use Rattle.std.proofs.Common.{rules, ◌≡◌, Err, sym}
use Rattle.memory.proofs.Copied.{constant-not}
use Rattle.copying.proofs.copy_constant.Goals as goal

pub returns-in_err-start : goal.returns-in_err-start
returns-in_err-start c =
    let is : c.from_residual.result ≡ Err c.in_err-start.field-0.0 = search rules in
    rw is (sym (constant-not _ _ _ _ _ _ _ (sym c.in_err-start.ensures)))
