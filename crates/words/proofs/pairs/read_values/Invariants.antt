-- `pairs::read_values` meets its contract: what is still to be read, stored after what is, is what the whole line says.
use Prim.Native.Nat.{◌-◌, min}
use lib.ListN.{length, drop}
use Rattle.words.specs.Words.{words}
use Rattle.words.specs.Pairs.{values_from}
use Rattle.words.proofs.Reading.{Owed}
use Rattle.words.proofs.pairs.read_values.Given as goal

abbrev pub invariant-loop-i : goal.invariant-loop-i
invariant-loop-i l =
    let room = min (length l.initial.tags) (length l.initial.bits) in
    Owed (values_from (room - l.i) l.i l.n (drop l.n (words l.line))) (values_from room 0 l.first (drop l.first (words l.line))) l.i l.initial.tags l.tags l.initial.bits l.bits
