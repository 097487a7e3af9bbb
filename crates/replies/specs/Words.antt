-- Registers and answers as the words that a host in C or Rust lends.
use Rattle.std.specs.Prelude.{ℕ, Bool, ◌&&◌, List, [], ◌∷◌, get_or, length, eqb, Result, Ok, Err, Option, Some, None, ⊤}
use Rattle.value.specs.declared.refusal.Refusal.{Refusal}
use Rattle.value.specs.Refusal as refusal
use Rattle.value.specs.Answer.{pick}
use Rattle.image.specs.declared.number.Stop.{Stop}
use Rattle.memory.specs.Tables.{registers}
use Rattle.memory.specs.declared.Registers.{Registers}
use Rattle.run.specs.declared.Ran.{Ran}
use Rattle.run.specs.declared.Ran.TheVariants as ran
use Rattle.instruction.specs.declared.step.Progress.{Progress}
use Rattle.instruction.specs.declared.step.Progress.TheVariants as progress
use Rattle.instruction.specs.declared.variables.Found.{Found}
use Rattle.eval.specs.declared.entry.EntryError.{EntryError}
use Rattle.eval.specs.declared.entry.EntryError.TheVariants as entry
use Rattle.image_writer.specs.declared.writer.WriteError.{WriteError}
use Rattle.image_writer.specs.declared.writer.WriteError.TheVariants as write
use Rattle.replies.specs.declared.words.Reply.{Reply}

-- ---- words

-- registers are five words, an answer is four
unfoldable pub shaped_of : (registers answer : ℕ) → Bool
shaped_of r a = eqb r 5 && eqb a 4

-- the registers that words say: running, next, counter, depth, pointers
abbrev pub registers_in : List ℕ → Registers
registers_in l = registers (get_or l 0 0) (get_or l 1 0) (get_or l 2 0) (get_or l 3 0) (get_or l 4 0)

abbrev pub words_of : Registers → List ℕ
words_of m = m.running ∷ m.next ∷ m.counter ∷ m.depth ∷ m.pointers ∷ []

abbrev pub reply_words : Reply → List ℕ
reply_words r = r.ended ∷ r.tag ∷ r.bits ∷ r.count ∷ []

-- in place of five words, or of four
unfoldable pub registers_put : Registers → List ℕ → List ℕ
registers_put m l = pick (eqb (length l) 5) (words_of m) l

unfoldable pub reply_put : Reply → List ℕ → List ℕ
reply_put r l = pick (eqb (length l) 4) (reply_words r) l

-- ---- answers

abbrev pub reply : (number ended tag bits count : ℕ) → Reply
reply n e t b c = record { number = n; ended = e; tag = t; bits = b; count = c }

-- the refusal's number or 0, a count, and no value
abbrev pub counted_of : (number count : ℕ) → Reply
counted_of n c = reply n 0 0 0 c

-- a refusal's number, and no count
abbrev pub refused_of : Refusal → Reply
refused_of n = counted_of (refusal.number_of n) 0

-- "an image is refused at a place"
abbrev pub stopped_of : Stop → Reply
stopped_of e = counted_of (refusal.number_of e.why) e.place

abbrev pub reply_error : EntryError → Reply
reply_error (entry.Refused n) = refused_of n
reply_error (entry.NotLoaded e) = stopped_of e

-- "returned (a value or none)": none has tag 0 and bits 0
abbrev pub ended_of : Option Found → (count : ℕ) → Reply
ended_of (Some v) c = reply 0 1 v.tag v.bits c
ended_of None c = reply 0 1 0 0 c

abbrev pub reply_moved : Result Registers Refusal → Reply
reply_moved (Ok n) = counted_of 0 0
reply_moved (Err n) = refused_of n

abbrev pub reply_entered : Result Progress EntryError → Reply
reply_entered (Ok (progress.Next m)) = counted_of 0 0
reply_entered (Ok (progress.Ended m v)) = ended_of v 0
reply_entered (Err e) = reply_error e

-- the steps done are told with each
abbrev pub reply_run : Result Ran EntryError → Reply
reply_run (Ok (ran.Returned m v count)) = ended_of v count
reply_run (Ok (ran.Paused m count)) = counted_of 0 count
reply_run (Ok (ran.Stopped m n count)) = counted_of (refusal.number_of n) count
reply_run (Err e) = reply_error e

-- the new pointer's number
abbrev pub reply_given : Result (ℕ × Registers) Refusal → Reply
reply_given (Ok (pointer, m)) = counted_of 0 pointer
reply_given (Err n) = refused_of n

abbrev pub reply_read : Result ⊤ EntryError → Reply
reply_read (Ok u) = counted_of 0 0
reply_read (Err e) = reply_error e

-- how many bytes were written
abbrev pub reply_written : Result ℕ WriteError → Reply
reply_written (Ok count) = counted_of 0 count
reply_written (Err (write.NotLoaded e)) = stopped_of e
reply_written (Err (write.Short n)) = refused_of n

abbrev pub number_of : Result ⊤ Refusal → ℕ
number_of (Ok u) = 0
number_of (Err n) = refusal.number_of n
