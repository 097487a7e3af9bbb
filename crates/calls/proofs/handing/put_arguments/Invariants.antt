-- The loop's invariant: what is left of the arguments has values, and sets what all of them set.
use Prim.Native.Nat.{◌-◌}
use mathlib.Core.Bool.{true}
use mathlib.Core.Path.{◌≡◌}
use Rattle.calls.specs.Variables.{arguments_set, all_found}
use Rattle.calls.proofs.handing.put_arguments.Given as goal

abbrev pub invariant-loop : goal.invariant-loop
invariant-loop l =
    (all_found l.fn.image (l.fn.call.given - l.counter) l.argument l.vars ≡ true)
    × (arguments_set l.fn.image (l.fn.callee.wanted - l.counter) l.parameter (l.fn.call.given - l.counter) l.argument l.vars ≡ arguments_set l.fn.image l.fn.callee.wanted l.fn.callee.parameters l.fn.call.given l.fn.call.arguments l.fn.vars)
