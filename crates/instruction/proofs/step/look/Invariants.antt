-- `step::look` meets its contract: the bytes passed are no more than the greatest, and the first place is the first of those passed.
use Prim.Native.Nat.{ℕ, ◌+◌, ◌-◌, ◌≤◌, ◌<◌}
use lib.ListN.{get_or}
use Rattle.instruction.specs.Short.{First}
use Rattle.instruction.proofs.step.look.Given as goal

abbrev pub invariant-loop-k : goal.invariant-loop-k
invariant-loop-k l = (l.k ≤ l.size) × ((i : ℕ) → l.start ≤ i → i < l.start + l.k → get_or l.image i 0 ≤ l.greatest) × First l.image l.start l.k l.number l.first

abbrev pub decreases-loop-k : goal.decreases-loop-k
decreases-loop-k l = l.size - l.k
