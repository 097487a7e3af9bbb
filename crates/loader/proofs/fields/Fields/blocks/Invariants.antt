-- `blocks` meets its contract: after i turns, what is left to read gives what the whole gives.
use Prim.Native.Nat.{◌≤◌, ◌-◌}
use Rattle.loader.specs.Counts.{counts_of}
use Rattle.loader.proofs.Blocks.{Blocked}
use Rattle.loader.proofs.fields.Fields.blocks.Given as goal

abbrev pub invariant-loop-i : goal.invariant-loop-i
invariant-loop-i l = Blocked l.self.image.now (counts_of l.self.counts) l.start l.self.counts.blocks l.initial.labels l.initial.places l.end (l.self.counts.blocks - l.i) l.total l.i l.labels l.places × (l.total ≤ 4096)
