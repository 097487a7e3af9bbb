-- What a run of the code makes of registers and tables.
use Rattle.std.specs.Prelude.{ℕ, zero, suc, ◌+◌, List, Result, Ok, Err}
use Rattle.value.specs.declared.refusal.Refusal.{Refusal}
use Rattle.memory.specs.declared.Registers.{Registers}
use Rattle.memory.specs.Tables.{State, state, tables}
use Rattle.instruction.specs.Code.{Stepped}
use Rattle.instruction.specs.declared.step.Progress.{Progress}
use Rattle.instruction.specs.declared.step.Progress.TheVariants as progress
use Rattle.step.specs.Items.{Items}
use Rattle.step.specs.Step.{stepped_of}
use Rattle.run.specs.declared.Ran.{Ran}
use Rattle.run.specs.declared.Ran.TheVariants as ran

-- an answer, with all tables
pub record Running (A : Type 0) : Type 0 where
  pub answer : A
  pub store : List ℕ
  pub frames : List ℕ
  pub bounds : List ℕ
  pub pointers : List ℕ
  pub variables : List ℕ

abbrev pub running : {A : Type 0} → A → (store frames bounds pointers variables : List ℕ) → Running A
running r s f b p v = record { answer = r; store = s; frames = f; bounds = b; pointers = p; variables = v }

-- an answer that leaves the tables as they are
abbrev pub resting : {A : Type 0} → A → State → Running A
resting r t = running r t.memory.store t.memory.frames t.memory.bounds t.memory.pointers t.variables

-- the state after a step, with these registers
abbrev pub following : Registers → Stepped → State
following m a = state (tables m a.store a.frames a.bounds a.pointers) a.variables

-- "The last Return is a step; a refused instruction is none." `on` is the rest of the run.
abbrev pub after : (before : Registers) → (done : ℕ) → (Result Progress Refusal) → Stepped → (State → Running Ran) → Running Ran
after m done (Ok (progress.Next n)) a on = on (following n a)
after m done (Ok (progress.Ended n v)) a on = resting (ran.Returned n v (done + 1)) (following n a)
after m done (Err number) a on = resting (ran.Stopped m number done) (following m a)

-- "Before each instruction: if steps done equal the budget, it is paused."
unfoldable pub ran_of : Items → (left done : ℕ) → State → Running Ran
ran_of i zero done t = resting (ran.Paused t.memory.registers done) t
ran_of i (suc left) done t = after t.memory.registers done (stepped_of i t).answer (stepped_of i t) (λ t'. ran_of i left (done + 1) t')
