-- `signed_order`: both are of the family, and their order is tested.
use Rattle.std.proofs.Common.{rules}
use Rattle.value.specs.Ir.{value_of}
use Rattle.comparing.specs.Compare.{test_of}
use Rattle.comparing.proofs.Comparing.{signed-left, signed_right, signed-both}
use Rattle.comparing.proofs.compare.signed_order.Goals as goal

pub returns-in-Some-Some : goal.returns-in-Some-Some
returns-in-Some-Some c =
    let A = c.args in
    signed-both (test_of A.test) (value_of A.x) (value_of A.y) {a = c.in-Some-Some.a} {b = c.in-Some-Some.b} c.as_i64.ensures c.in-Some-Some.is-0 c.as_i64-2.ensures c.in-Some-Some.is-1 (search rules) (search rules) c.cmp.ensures c.passes.ensures

pub returns-in_default : goal.returns-in_default
returns-in_default c =
    let A = c.args in
    signed_right (test_of A.test) (value_of A.x) (value_of A.y) c.as_i64-2.ensures c.in_default.is-1

pub returns-in_default-2 : goal.returns-in_default-2
returns-in_default-2 c =
    let A = c.args in
    signed-left (test_of A.test) (value_of A.x) (value_of A.y) c.as_i64.ensures c.in_default.is-0
