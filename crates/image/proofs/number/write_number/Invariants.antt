-- `write_number` meets its contract: storing the bytes of what is left finishes the whole store.
use Prim.Native.Nat.{◌+◌, ◌-◌, ◌≤◌}
use mathlib.Core.Path.{◌≡◌}
use lib.ListN.{length}
use lib.Seq.{sets}
use Rattle.image.specs.Number.{bytes_from, bytes_of}
use Rattle.image.proofs.Bytes.{Held}
use Rattle.image.proofs.number.write_number.Given as goal

abbrev pub invariant-loop-left : goal.invariant-loop-left
invariant-loop-left l =
    (sets l.out l.at (bytes_from (l.start + 9 - l.at) l.left) ≡ sets l.initial.out l.start (bytes_of l.v))
    × (l.at + length (bytes_from (l.start + 9 - l.at) l.left) ≡ l.start + length (bytes_of l.v))
    × Held (l.start + 9 - l.at) l.left × (l.start ≤ l.at)

abbrev pub decreases-loop-left : goal.decreases-loop-left
decreases-loop-left l = l.start + 9 - l.at
