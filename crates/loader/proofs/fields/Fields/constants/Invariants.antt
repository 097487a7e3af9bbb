-- `constants` meets its contract: after i turns, what is left to read gives what the whole gives.
use Prim.Native.Nat.{◌-◌}
use lib.ListN.{length}
use Rattle.image.specs.Fields.{bytes}
use Rattle.loader.proofs.Turn.{Turn}
use Rattle.loader.proofs.fields.Fields.constants.Given as goal

abbrev pub invariant-loop-i : goal.invariant-loop-i
invariant-loop-i l = Turn (λ x. length x.item) (bytes l.self.image.now) l.start 8192 l.self.counts.constants 0 l.initial.table l.at l.left (l.self.counts.constants - l.i) l.i l.table
