-- `functions` meets its contract: after i turns, what is left to read gives what the whole gives.
use Prim.Native.Nat.{◌-◌}
use Rattle.image.specs.Image.{function}
use Rattle.loader.specs.Counts.{counts_of}
use Rattle.loader.proofs.Turn.{Turn}
use Rattle.loader.proofs.fields.Fields.functions.Given as goal

abbrev pub invariant-loop-i : goal.invariant-loop-i
invariant-loop-i l = Turn (λ x. 0) (λ left. function l.self.image.now (counts_of l.self.counts)) l.start 0 l.self.counts.functions 0 l.initial.table l.at 0 (l.self.counts.functions - l.i) l.i l.table
