-- "`live ROOM` (at most 4,096) → `live COUNT` and for each pointer ` L FRAME ALLOCATION OFFSET`, L 1 or 0."
use Rattle.std.specs.Prelude.{ℕ, List, ◌++◌, take, replicate, slice_index, Result, Ok, Err, ⊤}
use Rattle.words.specs.Ascii.{ascii}
use Rattle.answers.specs.Lines.{Pieces, ending, labelled, live_record, refusal_line}
use Rattle.by_hand.specs.State.{each}
use Rattle.value.specs.Refusal.{number_of}
use Rattle.value.specs.declared.refusal.Refusal.{Refusal}
use Rattle.memory.specs.Tables.{State, Columns, Listing}
use Rattle.eval.specs.Host.{host_listed}

-- the record of a pointer, from the four columns of the list
unfoldable pub record_at : (live frame allocation offset : List ℕ) → ℕ → Pieces
record_at l f a o p = live_record (slice_index l p) (slice_index f p) (slice_index a p) (slice_index o p)

abbrev pub columns_line : (count : ℕ) → Columns → Pieces
columns_line n c = labelled (ascii "live ") n ++ each n 0 (record_at c.live c.frame c.allocation c.offset) ++ ending

abbrev pub listed_line : Result ⊤ Refusal → (count : ℕ) → Columns → Pieces
listed_line (Ok u) n c = columns_line n c
listed_line (Err why) n c = refusal_line (number_of why)

abbrev pub listing_line : (count : ℕ) → Listing → Pieces
listing_line n l = listed_line l.answer n l.slices

-- a column with room for so many pointers
abbrev pub room_for : ℕ → List ℕ
room_for room = take room (replicate 4096 0)

unfoldable pub live_line_of : (room : ℕ) → State → Pieces
live_line_of room t = listing_line t.memory.registers.pointers (host_listed t (room_for room) (room_for room) (room_for room) (room_for room))
