-- `hex::decode` meets its contract: the pairs that are left, stored after those that are, are all of them.
use Prim.Native.Nat.{◌*◌, ◌/◌}
use mathlib.Core.Path.{◌≡◌}
use lib.ListN.{length, drop}
use lib.Seq.{sets}
use Rattle.words.specs.Hex.{bytes_said}
use Rattle.words.proofs.hex.decode.Given as goal

abbrev pub invariant-loop-i : goal.invariant-loop-i
invariant-loop-i l = (sets l.out l.i (bytes_said (drop (2 * l.i) l.word)) ≡ bytes_said l.word) × (length l.out ≡ length l.word / 2)
