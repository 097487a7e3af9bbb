-- The loop's invariant: what is left of the parameters and values makes what all of them make.
use Prim.Native.Nat.{◌-◌}
use mathlib.Core.Path.{◌≡◌}
use lib.ListN.{drop}
use Rattle.calls.specs.Begin.{values_set}
use Rattle.calls.proofs.begin.set_values.Given as goal

abbrev pub invariant-loop : goal.invariant-loop
invariant-loop l =
    values_set l.fn.image (l.fn.callee.wanted - l.counter) l.at (drop l.k l.fn.tags) (drop l.k l.fn.bits) l.vars ≡ values_set l.fn.image l.fn.callee.wanted l.fn.callee.parameters (drop l.fn.first l.fn.tags) (drop l.fn.first l.fn.bits) l.fn.vars
