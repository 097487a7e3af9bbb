-- The registers after an entry. A refusal hands out none: the caller's own stand, `m`.
use Rattle.std.specs.Prelude.{Result, Ok, Err, ℕ}
use Rattle.value.specs.declared.refusal.Refusal.{Refusal}
use Rattle.memory.specs.declared.Registers.{Registers}
use Rattle.run.specs.declared.Ran.{Ran}
use Rattle.run.specs.declared.Ran.TheVariants as ran
use Rattle.instruction.specs.declared.step.Progress.{Progress}
use Rattle.instruction.specs.declared.step.Progress.TheVariants as progress
use Rattle.eval.specs.declared.entry.EntryError.{EntryError}

-- fresh memory
abbrev pub after_moved : (Result Registers Refusal) → Registers → Registers
after_moved (Ok n) m = n
after_moved (Err number) m = m

-- a start or a step
abbrev pub after_entered : Result Progress EntryError → Registers → Registers
after_entered (Ok (progress.Next n)) m = n
after_entered (Ok (progress.Ended n v)) m = n
after_entered (Err e) m = m

-- "a run keeps the steps done before it", so one that stopped hands out its registers
abbrev pub after_run : Result Ran EntryError → Registers → Registers
after_run (Ok (ran.Returned n v count)) m = n
after_run (Ok (ran.Paused n count)) m = n
after_run (Ok (ran.Stopped n number count)) m = n
after_run (Err e) m = m

-- the host's allocation
abbrev pub after_given : (Result (ℕ × Registers) Refusal) → Registers → Registers
after_given (Ok (pointer, n)) m = n
after_given (Err number) m = m
