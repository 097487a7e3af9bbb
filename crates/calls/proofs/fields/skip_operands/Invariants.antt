-- The loop's invariant: what is left to pass over leads where all of it leads.
use Prim.Native.Nat.{◌-◌}
use mathlib.Core.Path.{◌≡◌}
use Rattle.calls.specs.Fields.{operands_skipped}
use Rattle.calls.proofs.fields.skip_operands.Given as goal

abbrev pub invariant-loop : goal.invariant-loop
invariant-loop l = operands_skipped l.fn.image (l.fn.count - l.counter) l.at ≡ operands_skipped l.fn.image l.fn.count l.fn.start
