-- P1 of the compiled entries: its image is started and run on tables that began as fresh.
use Rattle.std.specs.Prelude.{ℕ, ◌≡◌, List, [], ◌∷◌, map}
use Rattle.std.proofs.Math.Option.{some}
use Rattle.value.specs.Refusal.{outside_width}
use Rattle.value.specs.Value.{value, bool, u8, tag}
use Rattle.image.specs.Cases.{p1_image}
use Rattle.memory.specs.Tables.{State}
use Rattle.machine.specs.Machine.{Outcome, returned, paused, stopped}
use Rattle.machine.specs.Asks.{Reply, done, ran}
use Rattle.instruction.specs.Variables.{found}
use Rattle.promise.specs.Calls.{Call, call_start, call_run, heard_by}
use Rattle.promise.specs.Promised.{Begun}

-- an argument and a budget, and what the run answers
pub record First : Type 0 where
  pub argument : ℕ
  pub budget : ℕ
  pub outcome : Outcome
  pub count : ℕ

abbrev pub first : (argument budget : ℕ) → Outcome → (count : ℕ) → First
first a b o n = record { argument = a; budget = b; outcome = o; count = n }

-- "Argument U8 41, budget 2: returned U8 42, 2 steps. Budget 1: paused, 1. Budget 0: paused, 0. Argument 255: 23 after 0."
abbrev pub p1_cases : List First
p1_cases = first 41 2 (returned (some (value u8 42))) 2 ∷ first 41 1 paused 1 ∷ first 41 0 paused 0 ∷ first 255 2 (stopped outside_width) 0 ∷ []

-- the function 0 is started, with the context Bool 0, and run
abbrev pub p1_start : (argument : ℕ) → Call
p1_start a = call_start p1_image 0 (found (tag bool) 0) (tag u8 ∷ []) (a ∷ [])

abbrev pub p1_run : (budget : ℕ) → Call
p1_run b = call_run p1_image b

abbrev pub p1_calls : First → List Call
p1_calls c = p1_start c.argument ∷ p1_run c.budget ∷ []

abbrev pub p1_replies : First → List Reply
p1_replies c = done ∷ ran c.outcome c.count ∷ []

abbrev pub CodeAnswersFirst : Type 0
CodeAnswersFirst = (t : State) → Begun t → map (λ c. heard_by (p1_calls c) t) p1_cases ≡ map p1_replies p1_cases
