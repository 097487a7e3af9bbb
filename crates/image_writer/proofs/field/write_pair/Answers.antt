-- `write_pair` meets its contract: two numbers one after the other, and room for both.
use native.Mathlib.Omega.{arith}
use lib.ListN.{length-append}
use Rattle.image.specs.Number.{bytes_of}
use Rattle.image_writer.proofs.Stores.{both, number-length}
use Rattle.image_writer.proofs.field.write_pair.Goals as goal

pub overflow_add-n : goal.overflow_add-n
overflow_add-n c = omega (arith, number-length c.args.first, number-length c.args.second)

pub returns : goal.returns
returns c =
    let a = c.args in
    let w = c.write_number in
    both (bytes_of a.first) (bytes_of a.second) a.start a.out.now (omega (arith, length-append (bytes_of a.first) (bytes_of a.second)))
    w.result _ _ _ _ w.ensures c.in_ok-at.was c.write_number-2.ensures
