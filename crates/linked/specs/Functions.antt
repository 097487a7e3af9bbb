-- The C functions as a host calls them, one after the other, on what it lends; and beside them promise's calls, in the words of include/lir.h.
use Rattle.std.specs.Prelude.{ℕ, Bool, true, false, List, [], ◌∷◌, length, eqb}
use Rattle.value.specs.Answer.{pick}
use Rattle.value.specs.Refusal.{number_of}
use Rattle.image.specs.Parse.{Got, took, refused}
use Rattle.image.specs.Program.{Program}
use Rattle.image.specs.Image.{loaded}
use Rattle.memory.specs.Tables.{State, Both}
use Rattle.machine.specs.Machine.{returned, paused, stopped}
use Rattle.machine.specs.Asks as Asks
use Rattle.agree.specs.Seen.{found_if}
use Rattle.promise.specs.Calls.{Call, call_allocate, call_write, call_read, call_start, call_step, call_run, call_list, call}
use Rattle.replies.specs.Words.{counted_of, ended_of, reply_words, shaped_of}
use Rattle.replies.specs.Words as Words
use Rattle.replies.specs.declared.words.Reply.{Reply}
use Rattle.embed.specs.Called.{Lent, lent, Gave, gave, state_of, start_called, step_called, run_called, allocate_called, write_called, Filled, read_called, Listed, list_called}

-- ---- the functions, each by the definition that its contract cites

-- a function that is lent a part leaves the rest as it stands
abbrev pub with_store : Lent → Both ℕ → Gave
with_store l r = gave r.answer (lent l.registers l.answer r.table l.frames l.bounds l.pointers l.variables)

abbrev pub with_answer : Lent → Filled → Gave
with_answer l r = gave r.number (lent l.registers r.answer l.store l.frames l.bounds l.pointers l.variables)

abbrev pub list_of : Lent → (live frame allocation offset : List ℕ) → Listed
list_of l live frame allocation offset = list_called l.registers l.store l.frames l.bounds l.pointers l.variables live frame allocation offset

-- lir_allocate, lir_write, lir_read, lir_start, lir_step, lir_run and lir_list
abbrev pub function : Call → Lent → Gave
function (call_allocate size) l = allocate_called size l
function (call_write p bs) l = with_store l (write_called p bs l.registers l.store l.frames l.bounds l.pointers l.variables)
function (call_read s p buffer) l = with_answer l (read_called s p buffer l)
function (call_start s n context ts bs) l = start_called s n context ts bs l
function (call_step s) l = step_called s l
function (call_run s budget) l = run_called s budget l
function (call_list live frame allocation offset) l = gave (list_of l live frame allocation offset).number l

-- one after the other: the numbers that they return, and what the host then holds
unfoldable pub numbers_by : List Call → Lent → List ℕ
numbers_by [] l = []
numbers_by (c ∷ cs) l = (function c l).number ∷ numbers_by cs (function c l).lent

unfoldable pub lent_by : List Call → Lent → Lent
lent_by [] l = l
lent_by (c ∷ cs) l = lent_by cs (function c l).lent

-- ---- a reply in words

-- "Each function returns 0, or the number of a refusal."; of the answer's words "1 after the last Return", "the returned value's tag, 0 for none", its bits,
-- and "a run's steps, the new pointer's number"; "to 0 where there is nothing to say"
abbrev pub told : Asks.Reply → Reply
told Asks.done = counted_of 0 0
told (Asks.gave p) = counted_of 0 p
told (Asks.bytes bs) = counted_of 0 0
told (Asks.returned v) = ended_of (found_if v) 0
told (Asks.ran (returned v) n) = ended_of (found_if v) n
told (Asks.ran paused n) = counted_of 0 n
told (Asks.ran (stopped k) n) = counted_of (number_of k) n
told (Asks.lists ls) = counted_of 0 0
told (Asks.refusal k) = counted_of (number_of k) 0

-- "where an image is refused, the place": the machine's reply has none, so loading tells it
abbrev pub placed : Got Program → Reply → Reply
placed (took P end) r = r
placed (refused why place) r = counted_of (number_of why) place

abbrev pub in_words : Call → Asks.Reply → Reply
in_words (call_allocate size) r = told r
in_words (call_write p bs) r = told r
in_words (call_read s p buffer) r = placed (loaded s) (told r)
in_words (call_start s n context ts bs) r = placed (loaded s) (told r)
in_words (call_step s) r = placed (loaded s) (told r)
in_words (call_run s budget) r = placed (loaded s) (told r)
in_words (call_list live frame allocation offset) r = told r

-- lir_write and lir_list take no answer
abbrev pub takes_answer : Call → Bool
takes_answer (call_allocate size) = true
takes_answer (call_write p bs) = false
takes_answer (call_read s p buffer) = true
takes_answer (call_start s n context ts bs) = true
takes_answer (call_step s) = true
takes_answer (call_run s budget) = true
takes_answer (call_list live frame allocation offset) = false

-- five registers, and four words of answer
abbrev pub shaped : Call → Lent → Bool
shaped c l = pick (takes_answer c) (shaped_of (length l.registers) (length l.answer)) (eqb (length l.registers) 5)

-- a state as words and tables, beside an answer
abbrev pub holding : State → (answer : List ℕ) → Lent
holding t a = lent (Words.words_of t.memory.registers) a t.memory.store t.memory.frames t.memory.bounds t.memory.pointers t.variables

-- what promise's call answers and leaves
abbrev pub answering : Call → Lent → Gave
answering c l =
    gave (in_words c (call c (state_of l)).reply).number
    (holding (call c (state_of l)).left (pick (takes_answer c) (reply_words (in_words c (call c (state_of l)).reply)) l.answer))

-- the buffer of a read: the bytes of a reply that has any
abbrev pub bytes_in : Asks.Reply → (buffer : List ℕ) → List ℕ
bytes_in Asks.done b = b
bytes_in (Asks.gave p) b = b
bytes_in (Asks.bytes bs) b = bs
bytes_in (Asks.returned v) b = b
bytes_in (Asks.ran o n) b = b
bytes_in (Asks.lists ls) b = b
bytes_in (Asks.refusal k) b = b
