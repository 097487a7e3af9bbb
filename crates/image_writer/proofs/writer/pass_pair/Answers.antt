-- `pass_pair` meets its contract: the two numbers that were read stand there, and are written.
use Rattle.std.proofs.Common.{sym}
use Rattle.image_writer.proofs.Keeps.{pair_passed, pair_stays}
use Rattle.image_writer.proofs.writer.pass_pair.Goals as goal

pub returns-in-Ok : goal.returns-in-Ok
returns-in-Ok c =
    let a = c.args in
    pair_passed a.image.now (λ k. (c.type_inv.image k).fits) a.c a.out.now (sym c.in-Ok.ensures) c.write_pair.ensures c.unwrap_or-to.ensures

pub returns-in-Err : goal.returns-in-Err
returns-in-Err c = let a = c.args in pair_stays a.image.now (λ k. (c.type_inv.image k).fits) a.c a.out.now (sym c.in-Err.ensures)
