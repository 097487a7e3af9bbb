-- The loop's invariant: what is left of the operands answers what all of them answer.
use Prim.Native.Nat.{◌-◌}
use mathlib.Core.Path.{◌≡◌}
use Rattle.calls.specs.Variables.{all_found}
use Rattle.calls.proofs.handing.all_found.Given as goal

abbrev pub invariant-loop : goal.invariant-loop
invariant-loop l = all_found l.fn.image (l.fn.count - l.counter) l.at l.fn.vars ≡ all_found l.fn.image l.fn.count l.fn.start l.fn.vars
