-- What a call of each C function gives: the number it answers, and every word and byte that was lent to it.
use Rattle.std.specs.Prelude.{ℕ, List, length, eqb, Result, ⊤}
use Rattle.value.specs.declared.refusal.Refusal.{Refusal}
use Rattle.value.specs.Answer.{pick}
use Rattle.value.specs.Refusal as refusal
use Rattle.image.specs.Image.{loaded}
use Rattle.image_writer.specs.Answer.{outcome, buffer}
use Rattle.memory.specs.declared.Registers.{Registers}
use Rattle.memory.specs.Tables.{State, state, tables, Both, both, All, Out, Columns, columns, Listing, fresh_of}
use Rattle.instruction.specs.declared.variables.Found.{Found}
use Rattle.run.specs.Run.{Running}
use Rattle.run.specs.declared.Ran.{Ran}
use Rattle.eval.specs.declared.entry.EntryError.{EntryError}
use Rattle.eval.specs.Entry.{Entering, Reading, run_entered, step_entered, read_entered}
use Rattle.eval.specs.Start.{start_entered}
use Rattle.eval.specs.Host.{host_allocated, host_written, host_listed}
use Rattle.replies.specs.declared.words.Reply.{Reply}
use Rattle.replies.specs.Words.{registers_in, words_of, reply_words, shaped_of, reply_moved, reply_entered, reply_run, reply_given, reply_read, reply_written, number_of}
use Rattle.eval.specs.After.{after_moved, after_entered, after_run, after_given}

-- registers and answer as words, and the tables
pub record Lent : Type 0 where
  pub registers : List ℕ
  pub answer : List ℕ
  pub store : List ℕ
  pub frames : List ℕ
  pub bounds : List ℕ
  pub pointers : List ℕ
  pub variables : List ℕ

abbrev pub lent : (registers answer store frames bounds pointers variables : List ℕ) → Lent
lent r a s f b p v = record { registers = r; answer = a; store = s; frames = f; bounds = b; pointers = p; variables = v }

pub record Gave : Type 0 where
  pub number : ℕ
  pub lent : Lent

abbrev pub gave : ℕ → Lent → Gave
gave n l = record { number = n; lent = l }

abbrev pub registers_of : Lent → Registers
registers_of l = registers_in l.registers

abbrev pub state_of : Lent → State
state_of l = state (tables (registers_of l) l.store l.frames l.bounds l.pointers) l.variables

-- a call whose registers and answer have their lengths; any other is refused, and nothing is changed
abbrev pub if_shaped : Lent → Gave → Gave
if_shaped l g = pick (shaped_of (length l.registers) (length l.answer)) g (gave (refusal.number_of refusal.not_sound) l)

-- registers and reply as words, beside the tables
abbrev pub giving : Reply → Registers → (store frames bounds pointers variables : List ℕ) → Gave
giving r m s f b p v = gave r.number (lent (words_of m) (reply_words r) s f b p v)

-- ---- the entries

abbrev pub fresh_gave : Registers → All → Gave
fresh_gave m r = giving (reply_moved r.answer) (after_moved r.answer m) r.store r.frames r.bounds r.pointers r.variables

unfoldable pub fresh_called : Lent → Gave
fresh_called l = if_shaped l (fresh_gave (registers_of l) (fresh_of l.store l.frames l.bounds l.pointers l.variables))

abbrev pub entered_gave : Registers → Entering → Gave
entered_gave m r = giving (reply_entered r.answer) (after_entered r.answer m) r.store r.frames r.bounds r.pointers r.variables

unfoldable pub start_called : (image : List ℕ) → (function : ℕ) → Found → (tags bits : List ℕ) → Lent → Gave
start_called s n context ts bs l = if_shaped l (entered_gave (registers_of l) (start_entered s n context ts bs (state_of l)))

unfoldable pub step_called : (image : List ℕ) → Lent → Gave
step_called s l = if_shaped l (entered_gave (registers_of l) (step_entered s (state_of l)))

abbrev pub ran_gave : Registers → Running (Result Ran EntryError) → Gave
ran_gave m r = giving (reply_run r.answer) (after_run r.answer m) r.store r.frames r.bounds r.pointers r.variables

unfoldable pub run_called : (image : List ℕ) → (budget : ℕ) → Lent → Gave
run_called s budget l = if_shaped l (ran_gave (registers_of l) (run_entered s budget (state_of l)))

-- ---- the host's calls

abbrev pub made_gave : Registers → (variables : List ℕ) → Out → Gave
made_gave m v r = giving (reply_given r.answer) (after_given r.answer m) r.store r.frames r.bounds r.pointers v

unfoldable pub allocate_called : (size : ℕ) → Lent → Gave
allocate_called size l = if_shaped l (made_gave (registers_of l) l.variables (host_allocated (state_of l) size))

-- a number, and the bytes of the store
abbrev pub numbered : Both (Result ⊤ Refusal) → Both ℕ
numbered r = both (number_of r.answer) r.table

unfoldable pub write_called : (p : ℕ) → (bytes registers : List ℕ) → (store frames bounds pointers variables : List ℕ) → Both ℕ
write_called n bytes r s f b p v =
    pick (eqb (length r) 5) (numbered (host_written (state (tables (registers_in r) s f b p) v) n bytes)) (both (refusal.number_of refusal.not_sound) s)

-- a number, the words of the answer, and the bytes of a buffer
pub record Filled : Type 0 where
  pub number : ℕ
  pub answer : List ℕ
  pub bytes : List ℕ

abbrev pub filled : ℕ → (answer bytes : List ℕ) → Filled
filled n a b = record { number = n; answer = a; bytes = b }

abbrev pub filling : Reply → List ℕ → Filled
filling r b = filled r.number (reply_words r) b

abbrev pub read_gave : Reading → Filled
read_gave r = filling (reply_read r.answer) r.bytes

unfoldable pub read_called : (image : List ℕ) → (p : ℕ) → (buffer : List ℕ) → Lent → Filled
read_called s p buffer l =
    pick (shaped_of (length l.registers) (length l.answer)) (read_gave (read_entered s p buffer (state_of l))) (filled (refusal.number_of refusal.not_sound) l.answer buffer)

unfoldable pub image_called : (image buffer answer : List ℕ) → Filled
image_called s b a = pick (eqb (length a) 4) (filling (reply_written (outcome (loaded s) b)) (buffer (loaded s) b)) (filled (refusal.number_of refusal.not_sound) a b)

-- a number, and the slices of the live list
pub record Listed : Type 0 where
  pub number : ℕ
  pub slices : Columns

abbrev pub listed : ℕ → (live frame allocation offset : List ℕ) → Listed
listed n l f a o = record { number = n; slices = columns l f a o }

abbrev pub list_gave : Listing → Listed
list_gave r = record { number = number_of r.answer; slices = r.slices }

unfoldable pub list_called : (registers store frames bounds pointers variables : List ℕ) → (live frame allocation offset : List ℕ) → Listed
list_called r s f b p v live frame allocation offset =
    pick (eqb (length r) 5) (list_gave (host_listed (state (tables (registers_in r) s f b p) v) live frame allocation offset)) (listed (refusal.number_of refusal.not_sound) live frame allocation offset)
