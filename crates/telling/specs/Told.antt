-- How an entry's answer is told: one line for each case, in the words of the program's commands.
use Rattle.memory.specs.declared.Registers.{Registers}
use Rattle.std.specs.Prelude.{ℕ, Option, Some, None, List, take, Result, Ok, Err, ⊤}
use Rattle.value.specs.declared.refusal.Refusal.{Refusal}
use Rattle.value.specs.Refusal.{number_of}
use Rattle.image.specs.declared.number.Stop.{Stop}
use Rattle.words.specs.Text.{Text, text, puts}
use Rattle.answers.specs.Lines.{Pieces, returned_line, returned_none_line, paused_line, refused_line, image_refused_line, pointer_line, bytes_line, ok_line, stepped_line, refusal_line, value_line, no_value_line}
use Rattle.instruction.specs.declared.variables.Found.{Found}
use Rattle.run.specs.declared.Ran.{Ran}
use Rattle.run.specs.declared.Ran.TheVariants as ran
use Rattle.instruction.specs.declared.step.Progress.{Progress}
use Rattle.instruction.specs.declared.step.Progress.TheVariants as progress
use Rattle.eval.specs.declared.entry.EntryError.{EntryError}
use Rattle.eval.specs.declared.entry.EntryError.TheVariants as entry
use Rattle.image_writer.specs.declared.writer.WriteError.{WriteError}
use Rattle.image_writer.specs.declared.writer.WriteError.TheVariants as write

-- a line from the start of a buffer on
abbrev pub line : Pieces → List ℕ → Text
line ps out = puts ps (text (Some 0) out)

-- ---- a run

-- "`returned KIND BITS steps N`, `returned none steps N`"
abbrev pub end_line : Option Found → (steps : ℕ) → Pieces
end_line (Some v) n = returned_line v.tag v.bits n
end_line None n = returned_none_line n

abbrev pub stop_line : Stop → Pieces
stop_line e = image_refused_line (number_of e.why) e.place

-- "`paused steps N`, `refused NUMBER steps N` .., or `image refused NUMBER at PLACE`"; "10 and 12 with 0 steps"
abbrev pub ran_line : Result Ran EntryError → Pieces
ran_line (Ok (ran.Returned m v n)) = end_line v n
ran_line (Ok (ran.Paused m n)) = paused_line n
ran_line (Ok (ran.Stopped m why n)) = refused_line (number_of why) n
ran_line (Err (entry.Refused why)) = refused_line (number_of why) 0
ran_line (Err (entry.NotLoaded e)) = stop_line e

-- ---- a start and a step

-- "`returned KIND BITS` or `returned none`"
abbrev pub last_line : Option Found → Pieces
last_line (Some v) = value_line v.tag v.bits
last_line None = no_value_line

-- "A refusal is `refused N`, or `image refused N at P` where the image was refused."
abbrev pub error_line : EntryError → Pieces
error_line (entry.Refused why) = refusal_line (number_of why)
error_line (entry.NotLoaded e) = stop_line e

abbrev pub entered_line : (went : Pieces) → Result Progress EntryError → Pieces
entered_line went (Ok (progress.Next m)) = went
entered_line went (Ok (progress.Ended m v)) = last_line v
entered_line went (Err e) = error_line e

-- "`start ..` → `ok`. `step` → `stepped`, `returned KIND BITS` or `returned none`."
abbrev pub start_line : Result Progress EntryError → Pieces
start_line e = entered_line ok_line e

abbrev pub step_line : Result Progress EntryError → Pieces
step_line e = entered_line stepped_line e

-- ---- the host's calls

-- "`fresh` → `ok`"
abbrev pub fresh_line : Result Registers Refusal → Pieces
fresh_line (Ok m) = ok_line
fresh_line (Err why) = refusal_line (number_of why)

-- "`allocate SIZE` → `pointer N`"
abbrev pub given_line : Result (ℕ × Registers) Refusal → Pieces
given_line (Ok (p, m)) = pointer_line p
given_line (Err why) = refusal_line (number_of why)

-- "`write P HEX` → `ok`"
abbrev pub outcome_line : Result ⊤ Refusal → Pieces
outcome_line (Ok u) = ok_line
outcome_line (Err why) = refusal_line (number_of why)

-- "`read P SIZE` .. → `bytes HEX`"
abbrev pub read_line : Result ⊤ EntryError → List ℕ → Pieces
read_line (Ok u) bs = bytes_line bs
read_line (Err e) bs = error_line e

-- ---- the image

-- "`rewrite ROOM` .. → the image written again by the image writer: `bytes HEX`", the first bytes of the writer's buffer
abbrev pub rewritten_line : Result ℕ WriteError → List ℕ → Pieces
rewritten_line (Ok n) bs = bytes_line (take n bs)
rewritten_line (Err (write.Short why)) bs = refusal_line (number_of why)
rewritten_line (Err (write.NotLoaded e)) bs = stop_line e
