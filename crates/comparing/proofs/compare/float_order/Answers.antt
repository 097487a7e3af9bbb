-- `float_order`: both are floats, and their order is tested.
use Rattle.value.specs.Ir.{value_of}
use Rattle.comparing.specs.Compare.{test_of}
use Rattle.comparing.proofs.Comparing.{float_left, float_right, float_both}
use Rattle.comparing.proofs.compare.float_order.Goals as goal
use Rattle.comparing.proofs.compare.float_order.Goals.{then-not-is_float-via-then-not-is_float, then-not-is_float-via-else-not-is_float+then-not-is_float-2}

pub returns-then-not-is_float : goal.returns-then-not-is_float
returns-then-not-is_float c =
    let A = c.args in
    elim c.then-not-is_float.branch [
      | then-not-is_float-via-then-not-is_float w ↦ float_left (test_of A.test) (value_of A.x) (value_of A.y) c.is_float.ensures w.if-not-is_float.true
      | then-not-is_float-via-else-not-is_float+then-not-is_float-2 w ↦ float_right (test_of A.test) (value_of A.x) (value_of A.y) w.is_float-else-not-is_float.ensures w.if-not-is_float-2.true
    ]

pub returns : goal.returns
returns c =
    let A = c.args in
    float_both (test_of A.test) (value_of A.x) (value_of A.y) c.is_float.ensures c.if-not-is_float.false c.is_float-else-not-is_float.ensures c.if-not-is_float-2.false c.order.ensures c.passes.ensures
