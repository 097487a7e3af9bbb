-- `hex::encode` meets its contract: the digits of the bytes that are left, stored after those that are, are all of them.
use Prim.Native.Nat.{◌*◌}
use mathlib.Core.Path.{◌≡◌}
use lib.ListN.{length, drop}
use lib.Seq.{sets}
use Rattle.words.specs.Hex.{pairs_of}
use Rattle.words.proofs.hex.encode.Given as goal

abbrev pub invariant-loop-i : goal.invariant-loop-i
invariant-loop-i l = (sets l.out (2 * l.i) (pairs_of (drop l.i l.bytes)) ≡ pairs_of l.bytes) × (length l.out ≡ length l.bytes * 2)
