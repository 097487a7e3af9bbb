-- The loop's invariant: what is left of the slots makes of the variables what all of them make.
use Prim.Native.Nat.{◌+◌, ◌-◌}
use mathlib.Core.Path.{◌≡◌}
use Rattle.calls.specs.Variables.{slots_pointed}
use Rattle.calls.proofs.handing.point.Given as goal

abbrev pub invariant-loop-k : goal.invariant-loop-k
invariant-loop-k l = slots_pointed l.fn.image (l.fn.callee.count - l.k) l.at (l.fn.first + l.k) l.vars ≡ slots_pointed l.fn.image l.fn.callee.count l.fn.callee.slots l.fn.first l.fn.vars
