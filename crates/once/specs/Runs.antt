-- "`lir run IMAGE`: the first line of standard input is the start line .. It writes one line". Fresh memory, a start, and the run that follows it.
use Rattle.std.specs.Prelude.{ℕ, Option, Result, Ok, Err, List, length, ltb}
use Rattle.value.specs.declared.refusal.Refusal.{Refusal}
use Rattle.value.specs.Answer.{pick}
use Rattle.words.specs.Words.{words}
use Rattle.words.specs.declared.BadWord.{BadWord}
use Rattle.answers.specs.Lines.{Pieces}
use Rattle.commands.specs.Rows.{start_row}
use Rattle.commands.specs.Commands.{row_asked, row_tags, row_bits}
use Rattle.commands.specs.declared.Parts.{Parts}
use Rattle.memory.specs.declared.Registers.{Registers}
use Rattle.memory.specs.Tables.{State, state, tables, All, fresh_of}
use Rattle.run.specs.Run.{Running, running}
use Rattle.run.specs.declared.Ran.{Ran}
use Rattle.run.specs.declared.Ran.TheVariants as ran
use Rattle.instruction.specs.declared.step.Progress.{Progress}
use Rattle.instruction.specs.declared.step.Progress.TheVariants as progress
use Rattle.eval.specs.Entry.{Entering, run_entered}
use Rattle.eval.specs.declared.entry.EntryError.{EntryError}
use Rattle.eval.specs.declared.entry.EntryError.TheVariants as entry
use Rattle.telling.specs.Told.{line, ran_line}
use Rattle.telling.specs.Starts.{begun_of, budget_of, unread_line, zeros, longest, value_room}

-- ---- fresh memory, the start and the run

-- a start that went on is run; "a refused start has 0 steps"
abbrev pub run_from : (image : List ℕ) → (budget : ℕ) → Result Progress EntryError → (store frames bounds pointers variables : List ℕ) → Running (Result Ran EntryError)
run_from s budget (Ok (progress.Next m)) st f b p v = run_entered s budget (state (tables m st f b p) v)
run_from s budget (Ok (progress.Ended m value)) st f b p v = running (Ok (ran.Returned m value 0)) st f b p v
run_from s budget (Err e) st f b p v = running (Err e) st f b p v

abbrev pub run_after : (image : List ℕ) → (budget : ℕ) → Entering → Running (Result Ran EntryError)
run_after s budget e = run_from s budget e.answer e.store e.frames e.bounds e.pointers e.variables

-- "FUNCTION BUDGET KIND BITS [KIND BITS]..."
unfoldable pub begun_run : (image : List ℕ) → Parts → (tags bits : List ℕ) → State → Running (Result Ran EntryError)
begun_run s a ts bs t = run_after s (budget_of a.second) (begun_of s a.first a.count ts bs t)

-- on fresh memory
abbrev pub made_run : (image : List ℕ) → Parts → (tags bits : List ℕ) → Result Registers Refusal → (store frames bounds pointers variables : List ℕ) → Running (Result Ran EntryError)
made_run s a ts bs (Ok m) st f b p v = begun_run s a ts bs (state (tables m st f b p) v)
made_run s a ts bs (Err why) st f b p v = running (Err (entry.Refused why)) st f b p v

abbrev pub made_from : (image : List ℕ) → Parts → (tags bits : List ℕ) → All → Running (Result Ran EntryError)
made_from s a ts bs r = made_run s a ts bs r.answer r.store r.frames r.bounds r.pointers r.variables

unfoldable pub fresh_run : (image : List ℕ) → Parts → (tags bits : List ℕ) → (store frames bounds pointers variables : List ℕ) → Running (Result Ran EntryError)
fresh_run s a ts bs st f b p v = made_from s a ts bs (fresh_of st f b p v)

-- ---- the line, and the tables

pub record Answer : Type 0 where
  pub line : Pieces
  pub store : List ℕ
  pub frames : List ℕ
  pub bounds : List ℕ
  pub pointers : List ℕ
  pub variables : List ℕ

abbrev pub answer : Pieces → (store frames bounds pointers variables : List ℕ) → Answer
answer l s f b p v = record { line = l; store = s; frames = f; bounds = b; pointers = p; variables = v }

abbrev pub from_run : Running (Result Ran EntryError) → Answer
from_run r = answer (ran_line r.answer) r.store r.frames r.bounds r.pointers r.variables

-- what the start line asks. It names no frame and has no HEX, so the depth (0) and the room for HEX (1) decide nothing
abbrev pub start_asked : (line : List ℕ) → Result Parts BadWord
start_asked l = row_asked start_row 0 1 value_room 0 (words l)

abbrev pub start_tags : (line : List ℕ) → List ℕ
start_tags l = row_tags start_row 0 value_room 0 (words l) zeros

abbrev pub start_bits : (line : List ℕ) → List ℕ
start_bits l = row_bits start_row 0 value_room 0 (words l) zeros

-- "What cannot be read .. is answered by one line .., nothing is done"
abbrev pub asked_answered : (image : List ℕ) → Result Parts BadWord → (tags bits store frames bounds pointers variables : List ℕ) → Answer
asked_answered s (Ok a) ts bs st f b p v = from_run (fresh_run s a ts bs st f b p v)
asked_answered s (Err k) ts bs st f b p v = answer (unread_line k.0) st f b p v

unfoldable pub start_answered : (line image : List ℕ) → (store frames bounds pointers variables : List ℕ) → Answer
start_answered l s st f b p v =
    pick (ltb longest (length l)) (answer (unread_line 0) st f b p v) (asked_answered s (start_asked l) (start_tags l) (start_bits l) st f b p v)

-- ---- in the buffers

pub record Answered : Type 0 where
  pub place : Option ℕ
  pub out : List ℕ
  pub store : List ℕ
  pub frames : List ℕ
  pub bounds : List ℕ
  pub pointers : List ℕ
  pub variables : List ℕ

abbrev pub answered : Option ℕ → (out store frames bounds pointers variables : List ℕ) → Answered
answered w o s f b p v = record { place = w; out = o; store = s; frames = f; bounds = b; pointers = p; variables = v }

abbrev pub answering : (out : List ℕ) → Answer → Answered
answering o a = answered (line a.line o).place (line a.line o).bytes a.store a.frames a.bounds a.pointers a.variables
