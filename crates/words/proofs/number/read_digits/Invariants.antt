-- `number::read_digits` meets its contract: the digits that are left, after those that were read, say what all of them say.
use Prim.Native.Nat.{◌^◌, ◌<◌}
use mathlib.Core.Path.{◌≡◌}
use lib.ListN.{drop}
use Rattle.words.specs.Number.{digits_say}
use Rattle.words.proofs.number.read_digits.Given as goal

abbrev pub invariant-loop-b : goal.invariant-loop-b
invariant-loop-b l = (digits_say l.n (drop l.b-index l.word) ≡ digits_say 0 l.word) × (l.n < 2 ^ 64)
