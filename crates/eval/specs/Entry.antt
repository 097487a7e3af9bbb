-- What the entries that take an image make of it, of registers and of tables. "Order: image, 10, 11 or 12, 13, 14, 15, then room".
use Rattle.std.specs.Prelude.{ℕ, ◌≤◌, List, length, eqb, Result, Ok, Err, ⊤}
use Rattle.value.specs.declared.refusal.Refusal.{Refusal}
use Rattle.value.specs.Answer.{pick}
use Rattle.value.specs.Refusal.{not_sound, idle}
use Rattle.image.specs.declared.number.Stop.{Stop}
use Rattle.loader.specs.Tables.{loaded_from}
use Rattle.loader.specs.declared.load.Loaded.{Loaded}
use Rattle.memory.specs.Tables.{State, Both, sound_of, read_of}
use Rattle.instruction.specs.Code.{Stepped}
use Rattle.instruction.specs.declared.step.Progress.{Progress}
use Rattle.instruction.specs.declared.step.Progress.TheVariants as progress
use Rattle.step.specs.Items.{Items}
use Rattle.eval.specs.Loaded.{items_of}
use Rattle.step.specs.Step.{stepped_of}
use Rattle.run.specs.Run.{Running, running, resting, ran_of}
use Rattle.run.specs.declared.Ran.{Ran}
use Rattle.run.specs.declared.Ran.TheVariants as ran
use Rattle.eval.specs.declared.entry.EntryError.{EntryError}
use Rattle.eval.specs.declared.entry.EntryError.TheVariants as entry

-- an answer, with all tables
pub record Entering : Type 0 where
  pub answer : Result Progress EntryError
  pub store : List ℕ
  pub frames : List ℕ
  pub bounds : List ℕ
  pub pointers : List ℕ
  pub variables : List ℕ

abbrev pub entering : Result Progress EntryError → (store frames bounds pointers variables : List ℕ) → Entering
entering r s f b p v = record { answer = r; store = s; frames = f; bounds = b; pointers = p; variables = v }

-- an answer that leaves the tables as they are
abbrev pub staying : Result Progress EntryError → State → Entering
staying r t = entering r t.memory.store t.memory.frames t.memory.bounds t.memory.pointers t.variables

-- ---- run

-- "10 state not sound", "12 run on an idle one", and else the steps
-- what the steps made, as an entry's answer
abbrev pub ended : Running Ran → Running (Result Ran EntryError)
ended a = running (Ok a.answer) a.store a.frames a.bounds a.pointers a.variables

unfoldable pub run_loaded : Items → (budget : ℕ) → State → Running (Result Ran EntryError)
run_loaded i budget t =
    pick (sound_of t)
    (pick (eqb t.memory.registers.running 1) (ended (ran_of i budget 0 t)) (resting (Err (entry.Refused idle)) t))
    (resting (Err (entry.Refused not_sound)) t)

-- an image that is refused is answered before all else
abbrev pub run_after : Result Loaded Stop → Items → (budget : ℕ) → State → Running (Result Ran EntryError)
run_after (Ok l) i budget t = run_loaded i budget t
run_after (Err e) i budget t = resting (Err (entry.NotLoaded e)) t

unfoldable pub run_entered : (bytes : List ℕ) → (budget : ℕ) → State → Running (Result Ran EntryError)
run_entered s budget t = run_after (loaded_from s) (items_of s) budget t

-- ---- step

abbrev pub stepped_as : Result Progress Refusal → Result Progress EntryError
stepped_as (Ok p) = Ok p
stepped_as (Err n) = Err (entry.Refused n)

abbrev pub stepped_from : Stepped → Entering
stepped_from a = entering (stepped_as a.answer) a.store a.frames a.bounds a.pointers a.variables

unfoldable pub step_loaded : Items → State → Entering
step_loaded i t =
    pick (sound_of t)
    (pick (eqb t.memory.registers.running 1) (stepped_from (stepped_of i t)) (staying (Err (entry.Refused idle)) t))
    (staying (Err (entry.Refused not_sound)) t)

abbrev pub step_after : Result Loaded Stop → Items → State → Entering
step_after (Ok l) i t = step_loaded i t
step_after (Err e) i t = staying (Err (entry.NotLoaded e)) t

unfoldable pub step_entered : (bytes : List ℕ) → State → Entering
step_entered s t = step_after (loaded_from s) (items_of s) t

-- what a run of one step answers, as a step's answer
abbrev pub as_entered : Result Ran EntryError → Result Progress EntryError
as_entered (Ok (ran.Paused m count)) = Ok (progress.Next m)
as_entered (Ok (ran.Returned m v count)) = Ok (progress.Ended m v)
as_entered (Ok (ran.Stopped m number count)) = Err (entry.Refused number)
as_entered (Err e) = Err e

-- ---- host read

pub record Reading : Type 0 where
  pub answer : Result ⊤ EntryError
  pub bytes : List ℕ

abbrev pub read_out : Result ⊤ EntryError → List ℕ → Reading
read_out r b = record { answer = r; bytes = b }

abbrev pub reading : Result ⊤ Refusal → Result ⊤ EntryError
reading (Ok u) = Ok u
reading (Err number) = Err (entry.Refused number)

abbrev pub read_as : Both (Result ⊤ Refusal) → Reading
read_as b = read_out (reading b.answer) b.table

unfoldable pub read_loaded : Items → (p : ℕ) → (buffer : List ℕ) → State → Reading
read_loaded i p buffer t =
    pick (sound_of t) (read_as (read_of t.memory p buffer i.bytes i.extents)) (read_out (Err (entry.Refused not_sound)) buffer)

abbrev pub read_after : Result Loaded Stop → Items → (p : ℕ) → (buffer : List ℕ) → State → Reading
read_after (Ok l) i p buffer t = read_loaded i p buffer t
read_after (Err e) i p buffer t = read_out (Err (entry.NotLoaded e)) buffer

unfoldable pub read_entered : (bytes : List ℕ) → (p : ℕ) → (buffer : List ℕ) → State → Reading
read_entered s p buffer t = read_after (loaded_from s) (items_of s) p buffer t

-- ---- the loader's tables

-- the counts lie within the tables
pub record Bounded (l : Loaded) : Type 0 where
  pub instructions : l.instructions ≤ length l.places
  pub blocks : l.counts.blocks ≤ length l.labels
  pub functions : l.counts.functions ≤ length l.functions
  pub constants : l.counts.constants ≤ length l.constants
  pub few : l.counts.constants ≤ 64
