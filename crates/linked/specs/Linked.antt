-- What is promised of the C functions: each is promise's call of the same name, so any calls of them are promise's, and demand 3 holds of `lir_read`.
-- `lir_write_image` is no call on a machine: its contract is by the image's own definitions.
use Rattle.std.specs.Prelude.{ℕ, ◌+◌, ◌<◌, true, ◌≡◌, ◌↔◌, List, [], ◌∷◌, map, length, get_or, eqb}
use Rattle.value.specs.Answer.{pick}
use Rattle.value.specs.declared.refusal.Refusal.{Refusal}
use Rattle.value.specs.Refusal.{not_sound, outside_width, number_of}
use Rattle.value.specs.Value.{u8, tag}
use Rattle.image.specs.Program.{Program}
use Rattle.image.specs.Limits.{AreBytes}
use Rattle.memory.specs.Live.{Live}
use Rattle.memory.specs.Tables.{columns}
use Rattle.memory.specs.View.{tab, live_in}
use Rattle.machine.specs.Asks.{Ask, lists, refusal}
use Rattle.machine.specs.History.{StandsFor, of_place, made_at}
use Rattle.machine.specs.Demand.{tells, Right}
use Rattle.replies.specs.Words.{shaped_of}
use Rattle.promise.specs.Calls.{Call, call_read, call_list, call, AllLent, Tells, heard_by, left_by}
use Rattle.promise.specs.Calls as Calls
use Rattle.promise.specs.Promised.{Begun, Image}
use Rattle.promise.specs.First.{p1_cases, p1_calls}
use Rattle.embed.specs.Called.{Lent, gave, registers_of, state_of, fresh_called, read_called}
use Rattle.linked.specs.Functions.{list_of, function, numbers_by, lent_by, told, shaped, answering, bytes_in}

-- ---- one call

-- what each function returns and leaves is what promise's call of the same name answers and leaves; of wrong lengths, 10, and nothing is changed.
-- Images, bytes to write and the store are bytes, as their types say.
abbrev pub FunctionsAreCalls : Type 0
FunctionsAreCalls = (c : Call) → Calls.Lent c → (l : Lent) → AreBytes l.store → function c l ≡ pick (shaped c l) (answering c l) (gave (number_of not_sound) l)

-- the buffer of lir_read, and the slices of lir_list: one record for each pointer
abbrev pub ReadsFill : Type 0
ReadsFill = (s : List ℕ) (p : ℕ) (buffer : List ℕ) (l : Lent)
    → (read_called s p buffer l).bytes ≡ pick (shaped_of (length l.registers) (length l.answer)) (bytes_in (call (call_read s p buffer) (state_of l)).reply buffer) buffer

pub record Shows (l : Lent) (live frame allocation offset : List ℕ) : Type 0 where
  pub listed : (ls : List Live) → (call (call_list live frame allocation offset) (state_of l)).reply ≡ lists ls
      → tab (registers_of l).pointers (live_in (list_of l live frame allocation offset).slices) ≡ ls
  pub stays : (n : Refusal) → (call (call_list live frame allocation offset) (state_of l)).reply ≡ refusal n
      → (list_of l live frame allocation offset).slices ≡ columns live frame allocation offset

abbrev pub ListsShow : Type 0
ListsShow = (l : Lent) → eqb (length l.registers) 5 ≡ true → (live frame allocation offset : List ℕ) → Shows l live frame allocation offset

-- ---- any calls

-- registers, an answer and tables of the right lengths
pub record Sized (l : Lent) : Type 0 where
  pub registers : length l.registers ≡ 5
  pub answer : length l.answer ≡ 4
  pub store : length l.store ≡ 32768
  pub frames : length l.frames ≡ 260
  pub bounds : length l.bounds ≡ 513
  pub pointers : length l.pointers ≡ 20480
  pub variables : length l.variables ≡ 512

-- lir_fresh leaves tables that begin
pub record Begins (l : Lent) : Type 0 where
  pub number : (fresh_called l).number ≡ 0
  pub begun : Begun (state_of (fresh_called l).lent)

abbrev pub FreshBegins : Type 0
FreshBegins = (l : Lent) → Sized l → Begins l

-- after lir_fresh, any functions in any order: the state is the one that promise's calls leave, and the numbers are those of their replies
pub record Follows (cs : List Call) (l : Lent) : Type 0 where
  pub left : state_of (lent_by cs l) ≡ left_by cs (state_of l)
  pub numbers : numbers_by cs l ≡ map (λ r. (told r).number) (heard_by cs (state_of l))

abbrev pub FunctionsFollow : Type 0
FunctionsFollow = (l : Lent) → Sized l → (cs : List Call) → AllLent cs → Follows cs (fresh_called l).lent

-- ---- demand 3

-- then a read by lir_read returns 0 exactly when it is right by what was asked
abbrev pub ReadGrantsExactlyWhenRight : Type 0
ReadGrantsExactlyWhenRight = (l : Lent) → Sized l → (cs : List Call) → AllLent cs → (as' : List Ask) → Tells cs as'
    → (s : List ℕ) (P : Program) → Image s P → (p : ℕ) (buffer : List ℕ)
    → ((read_called s p buffer (lent_by cs (fresh_called l).lent)).number ≡ 0) ↔ Right (tells as') P p (length buffer)

-- and each byte that it then fills in, through a local pointer, is the one last stored there, or zero
abbrev pub ReadFillsLastStored : Type 0
ReadFillsLastStored = (l : Lent) → Sized l → (cs : List Call) → AllLent cs → (as' : List Ask) → Tells cs as'
    → (s : List ℕ) (P : Program) → Image s P → (p : ℕ) (buffer : List ℕ) (f j o : ℕ) → StandsFor (tells as') p (of_place f j o)
    → (read_called s p buffer (lent_by cs (fresh_called l).lent)).number ≡ 0
    → (i : ℕ) → i < length buffer → get_or (read_called s p buffer (lent_by cs (fresh_called l).lent)).bytes i 0 ≡ (made_at (tells as').made f j).byte (o + i)

-- ---- P1

-- lir_start and lir_run on P1's image: their numbers, and the words ended, tag, bits, count
pub record AnswersFirst (l : Lent) : Type 0 where
  pub numbers : map (λ c. numbers_by (p1_calls c) (fresh_called l).lent) p1_cases ≡ (0 ∷ 0 ∷ []) ∷ (0 ∷ 0 ∷ []) ∷ (0 ∷ 0 ∷ []) ∷ (0 ∷ number_of outside_width ∷ []) ∷ []
  pub words : map (λ c. (lent_by (p1_calls c) (fresh_called l).lent).answer) p1_cases
      ≡ (1 ∷ tag u8 ∷ 42 ∷ 2 ∷ []) ∷ (0 ∷ 0 ∷ 0 ∷ 1 ∷ []) ∷ (0 ∷ 0 ∷ 0 ∷ 0 ∷ []) ∷ (0 ∷ 0 ∷ 0 ∷ 0 ∷ []) ∷ []

abbrev pub FunctionsAnswerFirst : Type 0
FunctionsAnswerFirst = (l : Lent) → Sized l → AnswersFirst l
