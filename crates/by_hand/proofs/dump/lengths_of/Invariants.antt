-- `dump::lengths_of` meets its contract: the lengths so far are those of the first allocations.
use Prim.Native.Nat.{◌≤◌}
use mathlib.Core.Path.{◌≡◌}
use lib.ListN.{length, take}
use Rattle.by_hand.specs.State.{lengths_from}
use Rattle.by_hand.proofs.dump.lengths_of.Given as goal

abbrev pub invariant-loop-k : goal.invariant-loop-k
invariant-loop-k l = (take l.k l.lengths ≡ lengths_from l.k l.bounds 0) × (length l.lengths ≡ 512) × (l.k ≤ 512)
