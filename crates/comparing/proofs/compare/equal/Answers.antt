-- `equal`: one kind that has an equality, and then floats by their order and others by their bits.
use Rattle.std.proofs.Common.{◌∙◌}
use Rattle.value.specs.Ir.{value_of}
use Rattle.comparing.specs.Compare.{test_of}
use Rattle.comparing.proofs.Comparing.{kinds_differ, no_equality, equal_floats, equal-bits}
use Rattle.comparing.proofs.compare.equal.Goals as goal
use Rattle.comparing.proofs.compare.equal.Goals.{then-tag-via-then-tag, then-tag-via-else-tag+then-not-has_equality, then-is_float, else-is_float}

pub returns-then-tag : goal.returns-then-tag
returns-then-tag c =
    let A = c.args in
    elim c.then-tag.branch [
      | then-tag-via-then-tag w ↦ kinds_differ (test_of A.test) (value_of A.x) (value_of A.y) c.tag.ensures c.tag-2.ensures w.if-tag.true
      | then-tag-via-else-tag+then-not-has_equality w ↦ no_equality (test_of A.test) (value_of A.x) (value_of A.y) w.has_equality.ensures w.if-not-has_equality.true
    ]

pub returns : goal.returns
returns c =
    let A = c.args in
    let t = test_of A.test in
    let x = value_of A.x in
    let y = value_of A.y in
    elim c.if-is_float.branch [
      | then-is_float w ↦ equal_floats t x y c.tag.ensures c.tag-2.ensures c.if-tag.false c.has_equality.ensures c.if-not-has_equality.false c.is_float.ensures c.passes.ensures w.if-is_float.true (w.found-is ∙ w.order-found.ensures)
      | else-is_float w ↦ equal-bits t x y c.tag.ensures c.tag-2.ensures c.if-tag.false c.has_equality.ensures c.if-not-has_equality.false c.is_float.ensures c.passes.ensures w.if-is_float.false w.bits.ensures w.bits-else-is_float.ensures w.cmp.ensures w.found-is
    ]
