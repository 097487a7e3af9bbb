-- `compute::short` meets its contract: past its tests stand two numbers of one unsigned kind, which each arm combines; what is none of these goes to `quotient`.
use Rattle.instruction.proofs.Unsigned.{alike_found}
use Rattle.instruction.proofs.compute.short.Goals as goal

pub returns-in-6 : goal.returns-in-6
returns-in-6 c r e = alike_found _ _ _ _ _ _ c.in-6.is c.if-x-y.false (c.order.ensures r e _ _ (record { kind = c.greatest.ensures _ c.in-Some.is; first = c.if-top-x.false; second = c.if-top-y.false }))

pub returns-in-9 : goal.returns-in-9
returns-in-9 c r e = alike_found _ _ _ _ _ _ c.in-9.is c.if-x-y.false (c.difference.ensures r e _ _ (record { kind = c.greatest.ensures _ c.in-Some.is; first = c.if-top-x.false; second = c.if-top-y.false }))
