-- "A lent table of records, one for each pointer number, rising: live or not, frame index, allocation, offset."
use Rattle.std.specs.Prelude.{ℕ, zero, suc, List, set, length, leb, eqb, Result, Ok, Err, ⊤}
use Rattle.value.specs.declared.refusal.Refusal.{Refusal}
use Rattle.value.specs.Answer.{pick}
use Rattle.value.specs.Refusal.{not_sound, short_table}
use Rattle.memory.specs.Tables.{Tables, State, pointer_at, record_of, sound_of}
use Rattle.memory.specs.declared.LiveRecord.{LiveRecord}
use Rattle.live_table.specs.declared.PointerRecord.{PointerRecord}

-- a record of the live list, as the table has it
abbrev pub shown : LiveRecord → PointerRecord
shown r = record { live = eqb r.live 1; frame = r.frame; allocation = r.allocation; offset = r.offset }

-- the record of pointer p
unfoldable pub record_at : Tables → (p : ℕ) → PointerRecord
record_at t p = shown (record_of t.registers.depth t.frames (pointer_at t.pointers p))

-- f 0 to f (n - 1) in place of the first n records
unfoldable pub filled : (n : ℕ) → (ℕ → PointerRecord) → List PointerRecord → List PointerRecord
filled zero f l = l
filled (suc n) f l = set (filled n f l) n (f n)

-- an answer, with the table
pub record Tabled : Type 0 where
  pub answer : Result ⊤ Refusal
  pub table : List PointerRecord

abbrev pub tabled : Result ⊤ Refusal → List PointerRecord → Tabled
tabled r l = record { answer = r; table = l }

-- "10 state not sound", then "41 list table shorter than the pointers"; "An answer shorter than its lent buffer or table leaves the rest of it as it stood."
unfoldable pub tabled_of : State → List PointerRecord → Tabled
tabled_of t l =
    pick (sound_of t)
    (pick (leb t.memory.registers.pointers (length l))
    (tabled (Ok tt) (filled t.memory.registers.pointers (record_at t.memory) l))
    (tabled (Err short_table) l))
    (tabled (Err not_sound) l)

-- ---- the answer before the records

-- an answer, and how many records go to the table
pub record Told : Type 0 where
  pub answer : Result ⊤ Refusal
  pub count : ℕ

abbrev pub told : Result ⊤ Refusal → (count : ℕ) → Told
told r n = record { answer = r; count = n }

abbrev pub told_none : (why : Refusal) → Told
told_none why = told (Err why) 0

-- the answer for a table with this room, and how many records go to it
unfoldable pub told_of : State → (room : ℕ) → Told
told_of t room =
    pick (sound_of t) (pick (leb t.memory.registers.pointers room) (told (Ok tt) t.memory.registers.pointers) (told_none short_table)) (told_none not_sound)

-- the number of records or a refusal, as an answer with its number of records
abbrev pub as_told : Result ℕ Refusal → Told
as_told (Ok n) = told (Ok tt) n
as_told (Err why) = told_none why
