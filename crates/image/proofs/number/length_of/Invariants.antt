-- `length_of` meets its contract: the bytes counted and those of what is left make up the number's.
use Prim.Native.Nat.{◌+◌, ◌-◌, ◌≤◌}
use mathlib.Core.Path.{◌≡◌}
use lib.ListN.{length}
use Rattle.image.specs.Number.{bytes_from, bytes_of}
use Rattle.image.proofs.Bytes.{Held}
use Rattle.image.proofs.number.length_of.Given as goal

abbrev pub invariant-loop-left : goal.invariant-loop-left
invariant-loop-left l = (l.n + length (bytes_from (10 - l.n) l.left) ≡ 1 + length (bytes_of l.v)) × Held (10 - l.n) l.left × (1 ≤ l.n)

abbrev pub decreases-loop-left : goal.decreases-loop-left
decreases-loop-left l = 10 - l.n
