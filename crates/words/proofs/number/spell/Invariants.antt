-- `number::spell` meets its contract: the digits that are left to spell, before those that are, are all of them.
use mathlib.Core.Path.{◌≡◌}
use lib.ListN.{length}
use lib.Seq.{sets}
use Rattle.words.specs.Number.{digits}
use Rattle.words.proofs.number.spell.Given as goal

abbrev pub invariant-loop-i : goal.invariant-loop-i
invariant-loop-i l = (sets l.out 0 (digits l.i l.left) ≡ digits (length l.initial.out) l.n) × (length l.out ≡ length l.initial.out)
