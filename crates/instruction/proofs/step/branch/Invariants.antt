-- `step::branch` meets its contract: the short way where it is open. The loop's invariant: what is left of the branches gives what all of them give.
use Prim.Native.Nat.{◌-◌, ◌≤◌}
use mathlib.Core.Path.{◌≡◌}
use Rattle.instruction.specs.Code.{branch_of}
use Rattle.instruction.proofs.step.branch.Given as goal

abbrev pub invariant-loop : goal.invariant-loop
invariant-loop l = (l.counter ≤ l.fn.count) × (branch_of l.fn.image (l.fn.count - l.counter) l.fn.bits l.at ≡ branch_of l.fn.image l.fn.count l.fn.bits l.fn.start)
