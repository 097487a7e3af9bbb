-- `pass_number` meets its contract: the number that was read stands there, and is written.
use Rattle.std.proofs.Common.{sym}
use Rattle.image_writer.proofs.Keeps.{number_passed, number-stays}
use Rattle.image_writer.proofs.writer.pass_number.Goals as goal

pub returns-in-Ok-clause-passed : goal.returns-in-Ok-clause-passed
returns-in-Ok-clause-passed c =
    let a = c.args in
    (number_passed a.image.now (λ k. (c.type_inv.image k).fits) a.c a.out.now (sym c.in-Ok.ensures) c.write_number.ensures c.unwrap_or-to.ensures).0

pub returns-in-Ok-clause-number : goal.returns-in-Ok-clause-number
returns-in-Ok-clause-number c =
    let a = c.args in
    (number_passed a.image.now (λ k. (c.type_inv.image k).fits) a.c a.out.now (sym c.in-Ok.ensures) c.write_number.ensures c.unwrap_or-to.ensures).1

pub returns-in-Err-clause-passed : goal.returns-in-Err-clause-passed
returns-in-Err-clause-passed c = let a = c.args in (number-stays a.image.now (λ k. (c.type_inv.image k).fits) a.c a.out.now (sym c.in-Err.ensures)).0

pub returns-in-Err-clause-number : goal.returns-in-Err-clause-number
returns-in-Err-clause-number c = let a = c.args in (number-stays a.image.now (λ k. (c.type_inv.image k).fits) a.c a.out.now (sym c.in-Err.ensures)).1
