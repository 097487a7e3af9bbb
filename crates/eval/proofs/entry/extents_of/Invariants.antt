-- `entry::extents_of` meets its contract: after k constants the first k pairs are there.
use Rattle.std.proofs.Common.{◌≡◌, ◌*◌, length, take}
use Rattle.decode.specs.Extents.{extents_at}
use Rattle.eval.proofs.entry.extents_of.Given as goal

abbrev pub invariant-loop-k : goal.invariant-loop-k
invariant-loop-k l = (length l.extents ≡ 128) × (take (l.k * 2) l.extents ≡ extents_at l.image (take l.k l.constants))
