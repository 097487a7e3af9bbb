-- `order`: std's order of the two wide floats is the one of the numbers that the bits stand for.
use Rattle.std.proofs.Common.{◌∙◌}
use Rattle.value.specs.Ir.{value_of}
use Rattle.comparing.proofs.Reals.{order-is}
use Rattle.comparing.proofs.order.order.Goals as goal

pub returns : goal.returns
returns c = c.partial_cmp.ensures ∙ order-is (value_of c.args.x) (value_of c.args.y) c.wide.ensures c.wide-2.ensures
