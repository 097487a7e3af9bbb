-- `instructions` meets its contract: after i turns, what is left to read gives what the whole gives.
use Prim.Native.Nat.{◌-◌}
use Rattle.image.specs.Image.{instruction}
use Rattle.loader.specs.Counts.{counts_of}
use Rattle.loader.proofs.Turn.{Turn}
use Rattle.loader.proofs.fields.Fields.instructions.Given as goal

abbrev pub invariant-loop-i : goal.invariant-loop-i
invariant-loop-i l = Turn (λ x. 0) (λ left. instruction l.self.image.now (counts_of l.self.counts)) l.start 0 l.count l.base l.initial.table l.at 0 (l.count - l.i) l.i l.table
