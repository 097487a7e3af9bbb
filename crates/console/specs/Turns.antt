-- What each command of the console does: the machine, the image and the bytes afterwards, and the line that it is answered by.
use Rattle.std.specs.Prelude.{ℕ, min, Option, Result, Ok, Err, List, length, take, replicate, ltb, ⊤}
use Rattle.std.proofs.lemmas.List.Edits.{sets}
use Rattle.value.specs.declared.refusal.Refusal.{Refusal}
use Rattle.value.specs.Answer.{pick}
use Rattle.words.specs.Words.{words}
use Rattle.words.specs.declared.BadWord.{BadWord}
use Rattle.answers.specs.Lines.{Pieces, image_line, ok_line}
use Rattle.commands.specs.Commands as Commands
use Rattle.commands.specs.declared.Asked.{Asked}
use Rattle.commands.specs.declared.Parts.{Parts}
use Rattle.commands.specs.declared.command.Command.{Command}
use Rattle.commands.specs.declared.command.Command.TheVariants as command
use Rattle.commands.specs.declared.command.Poke.{Poke}
use Rattle.by_hand.specs.Changes.{Poked, poked_of}
use Rattle.by_hand.specs.State.{dump_line}
use Rattle.image.specs.Image.{loaded}
use Rattle.image_writer.specs.Answer.{outcome, buffer}
use Rattle.memory.specs.declared.Registers.{Registers}
use Rattle.memory.specs.Tables.{State, state, tables, Both, All, Out, fresh_of}
use Rattle.run.specs.Run.{Running}
use Rattle.run.specs.declared.Ran.{Ran}
use Rattle.eval.specs.declared.entry.EntryError.{EntryError}
use Rattle.eval.specs.Entry.{Entering, Reading, run_entered, step_entered, read_entered}
use Rattle.eval.specs.Host.{host_allocated, host_written}
use Rattle.eval.specs.After.{after_moved, after_entered, after_run, after_given}
use Rattle.telling.specs.Told.{line, ran_line, start_line, step_line, fresh_line, given_line, outcome_line, read_line, rewritten_line}
use Rattle.telling.specs.Listed.{live_line_of}
use Rattle.telling.specs.Starts.{begun_of, budget_of, unread_line, zeros, longest, value_room}
use Rattle.console.specs.declared.Told.{Told}
use Rattle.console.specs.declared.Turn.{Turn}

-- ---- what a command leaves

-- the machine afterwards, and the line
pub record Done : Type 0 where
  pub machine : State
  pub line : Pieces

abbrev pub done : Registers → (store frames bounds pointers variables : List ℕ) → Pieces → Done
done m s f b p v ps = record { machine = state (tables m s f b p) v; line = ps }

-- the machine as it was
abbrev pub still : State → Pieces → Done
still t ps = record { machine = t; line = ps }

abbrev pub registers_of : State → Registers
registers_of t = t.memory.registers

-- ---- the commands that run the image

abbrev pub from_entering : State → (tell : Pieces) → Entering → Done
from_entering t ps r = done (after_entered r.answer (registers_of t)) r.store r.frames r.bounds r.pointers r.variables ps

-- "`start FUNCTION KIND BITS [KIND BITS]...` → `ok`"
unfoldable pub start_done : (image : List ℕ) → Parts → (tags bits : List ℕ) → State → Done
start_done s a ts bs t = let r = begun_of s a.first a.count ts bs t in from_entering t (start_line r.answer) r

-- "`step` → `stepped`, `returned KIND BITS` or `returned none`"
unfoldable pub step_done : (image : List ℕ) → State → Done
step_done s t = let r = step_entered s t in from_entering t (step_line r.answer) r

-- "`run BUDGET` → as `lir run`"
abbrev pub from_running : State → Running (Result Ran EntryError) → Done
from_running t r = done (after_run r.answer (registers_of t)) r.store r.frames r.bounds r.pointers r.variables (ran_line r.answer)

unfoldable pub run_done : (image : List ℕ) → Parts → State → Done
run_done s a t = from_running t (run_entered s (budget_of a.first) t)

abbrev pub ran_of : (image : List ℕ) → Command → Parts → (tags bits : List ℕ) → State → Done
ran_of s command.Start a ts bs t = start_done s a ts bs t
ran_of s command.Step a ts bs t = step_done s t
ran_of s _ a ts bs t = run_done s a t

-- ---- the commands that change the memory by the host's hand

-- "`fresh` → `ok`: fresh memory; the image stays."
abbrev pub from_all : State → All → Done
from_all t r = done (after_moved r.answer (registers_of t)) r.store r.frames r.bounds r.pointers r.variables (fresh_line r.answer)

unfoldable pub fresh_done : State → Done
fresh_done t = from_all t (fresh_of t.memory.store t.memory.frames t.memory.bounds t.memory.pointers t.variables)

-- "`allocate SIZE` → `pointer N`"
abbrev pub from_out : State → Out → Done
from_out t r = done (after_given r.answer (registers_of t)) r.store r.frames r.bounds r.pointers t.variables (given_line r.answer)

unfoldable pub allocate_done : Parts → State → Done
allocate_done a t = from_out t (host_allocated t a.first)

-- "`write P HEX` → `ok`"
abbrev pub from_both : State → Both (Result ⊤ Refusal) → Done
from_both t r = done (registers_of t) r.table t.memory.frames t.memory.bounds t.memory.pointers t.variables (outcome_line r.answer)

unfoldable pub write_done : Parts → (bytes : List ℕ) → State → Done
write_done a bs t = from_both t (host_written t a.first (take a.count bs))

-- "`poke WHAT ..` → `ok`"
abbrev pub from_poked : State → Poked → Done
from_poked t r = done r.registers t.memory.store r.frames t.memory.bounds r.pointers r.variables ok_line

unfoldable pub poke_done : Poke → Parts → State → Done
poke_done w a t = from_poked t (poked_of (registers_of t) w a t.memory.frames t.memory.pointers t.variables)

abbrev pub changed_of : Command → Parts → (bytes : List ℕ) → State → Done
changed_of command.Fresh a bs t = fresh_done t
changed_of command.Allocate a bs t = allocate_done a t
changed_of (command.Poke w) a bs t = poke_done w a t
changed_of _ a bs t = write_done a bs t

-- ---- the commands that look at the state and leave it as it is

-- bytes to read into, with so much room
abbrev pub bytes_for : (room : ℕ) → List ℕ
bytes_for room = take room (replicate 32768 0)

-- "`read P SIZE` (at most 32,768) → `bytes HEX`"
abbrev pub reading_line : Reading → Pieces
reading_line r = read_line r.answer r.bytes

unfoldable pub read_line_of : Parts → (image : List ℕ) → State → Pieces
read_line_of a s t = reading_line (read_entered s a.first (bytes_for a.second) t)

-- "`rewrite ROOM` (at most 32,768) → the image written again by the image writer: `bytes HEX`"
abbrev pub rewritten_in : (image room : List ℕ) → Pieces
rewritten_in s room = rewritten_line (outcome (loaded s) room) (buffer (loaded s) room)

unfoldable pub rewrite_line_of : Parts → (image : List ℕ) → Pieces
rewrite_line_of a s = rewritten_in s (bytes_for a.first)

-- "`dump` → `state ..`"
abbrev pub dump_line_of : State → Pieces
dump_line_of t = dump_line (registers_of t) t.memory.store t.memory.frames t.memory.bounds t.memory.pointers t.variables

abbrev pub looked_of : Command → Parts → (image : List ℕ) → State → Pieces
looked_of command.Read a s t = read_line_of a s t
looked_of command.Live a s t = live_line_of a.first t
looked_of command.Rewrite a s t = rewrite_line_of a s
looked_of _ a s t = dump_line_of t

-- ---- one command

-- what a command does on the machine: it runs the image, looks at the state, or changes the memory
abbrev pub machine_by : Command → Parts → (tags bits image bytes : List ℕ) → State → Done
machine_by command.Start a ts bs s bytes t = ran_of s command.Start a ts bs t
machine_by command.Step a ts bs s bytes t = ran_of s command.Step a ts bs t
machine_by command.Run a ts bs s bytes t = ran_of s command.Run a ts bs t
machine_by command.Read a ts bs s bytes t = still t (looked_of command.Read a s t)
machine_by command.Live a ts bs s bytes t = still t (looked_of command.Live a s t)
machine_by command.Rewrite a ts bs s bytes t = still t (looked_of command.Rewrite a s t)
machine_by command.Dump a ts bs s bytes t = still t (looked_of command.Dump a s t)
machine_by c a ts bs s bytes t = changed_of c a bytes t

abbrev pub machine_of : Asked → (tags bits image bytes : List ℕ) → State → Done
machine_of a ts bs s bytes t = machine_by a.command a.parts ts bs s bytes t

-- the machine and the line, the image's length and bytes, and the bytes that HEX was read into
pub record Performed : Type 0 where
  pub done : Done
  pub length : ℕ
  pub image : List ℕ
  pub bytes : List ℕ

abbrev pub performed : Done → ℕ → (image bytes : List ℕ) → Performed
performed d n image bs = record { done = d; length = n; image = image; bytes = bs }

-- "`image HEX` → `image N bytes`: the image for what follows; nothing is loaded yet." So many bytes as have room
abbrev pub image_count : (count : ℕ) → (image bytes : List ℕ) → ℕ
image_count n image bs = min (min n (length image)) (length bs)

abbrev pub image_taken : ℕ → (image bytes : List ℕ) → State → Performed
image_taken n image bs t = performed (still t (image_line n)) n (sets image 0 (take n bs)) bs

-- the image is the first `n` bytes of its buffer
abbrev pub performed_by : (n : ℕ) → Command → Parts → (tags bits image bytes : List ℕ) → State → Performed
performed_by n command.Image a ts bs image bytes t = image_taken (image_count a.count image bytes) image bytes t
performed_by n c a ts bs image bytes t = performed (machine_by c a ts bs (take n image) bytes t) n image bytes

abbrev pub performed_of : (n : ℕ) → Asked → (tags bits image bytes : List ℕ) → State → Performed
performed_of n a ts bs image bytes t = performed_by n a.command a.parts ts bs image bytes t

-- ---- one line

-- what the line asks
abbrev pub line_asked : (depth hex_room : ℕ) → (line : List ℕ) → Result Asked BadWord
line_asked d h l = Commands.line_asked d h value_room (words l)

abbrev pub line_bytes : (depth : ℕ) → (line before : List ℕ) → List ℕ
line_bytes d l before = Commands.line_bytes d (words l) before

abbrev pub line_tags : (depth : ℕ) → (line : List ℕ) → List ℕ
line_tags d l = Commands.line_tags d value_room (words l) zeros

abbrev pub line_bits : (depth : ℕ) → (line : List ℕ) → List ℕ
line_bits d l = Commands.line_bits d value_room (words l) zeros

-- a line that was read is done, on the machine and on what it left in the bytes
abbrev pub read_of : (n : ℕ) → Result Asked BadWord → (tags bits image bytes : List ℕ) → State → Performed
read_of n (Ok a) ts bs image bytes t = performed_of n a ts bs image bytes t
read_of n (Err k) ts bs image bytes t = performed (still t (unread_line k.0)) n image bytes

unfoldable pub answered_of : (n : ℕ) → (line image bytes : List ℕ) → State → Performed
answered_of n l image bytes t =
    pick (ltb longest (length l)) (performed (still t (unread_line 0)) n image bytes)
    (read_of n (line_asked (registers_of t).depth (length bytes) l) (line_tags (registers_of t).depth l) (line_bits (registers_of t).depth l) image
    (line_bytes (registers_of t).depth l bytes) t)

-- ---- in the buffers

-- the registers and where the text ends; the buffer of the text; the tables
pub record Left : Type 0 where
  pub told : Told
  pub out : List ℕ
  pub store : List ℕ
  pub frames : List ℕ
  pub bounds : List ℕ
  pub pointers : List ℕ
  pub variables : List ℕ

abbrev pub left : Told → (out store frames bounds pointers variables : List ℕ) → Left
left r o s f b p v = record { told = r; out = o; store = s; frames = f; bounds = b; pointers = p; variables = v }

abbrev pub told : Registers → Option ℕ → Told
told m w = record { m = m; text = w }

-- the line is written from the start of the buffer on
abbrev pub leaving : (out : List ℕ) → Done → Left
leaving o d =
    left (told (registers_of d.machine) (line d.line o).place) (line d.line o).bytes
    d.machine.memory.store d.machine.memory.frames d.machine.memory.bounds d.machine.memory.pointers d.machine.variables

abbrev pub turn : Told → (image : ℕ) → Turn
turn r n = record { m = r.m; image = n; text = r.text }

-- and with the image and the bytes
pub record Kept : Type 0 where
  pub turn : Turn
  pub out : List ℕ
  pub store : List ℕ
  pub frames : List ℕ
  pub bounds : List ℕ
  pub pointers : List ℕ
  pub variables : List ℕ
  pub image : List ℕ
  pub bytes : List ℕ

abbrev pub kept : Turn → (out store frames bounds pointers variables image bytes : List ℕ) → Kept
kept r o s f b p v image bs = record { turn = r; out = o; store = s; frames = f; bounds = b; pointers = p; variables = v; image = image; bytes = bs }

abbrev pub kept_from : Left → ℕ → (image bytes : List ℕ) → Kept
kept_from l n image bs = kept (turn l.told n) l.out l.store l.frames l.bounds l.pointers l.variables image bs

abbrev pub keeping : (out : List ℕ) → Performed → Kept
keeping o p = kept_from (leaving o p.done) p.length p.image p.bytes
