-- One record of the live list, for any tables: "live or not, frame index, allocation, offset".
use Rattle.std.specs.Prelude.{ℕ, Bool, ◌&&◌, List, length, ltb, leb, eqb}
use Rattle.value.specs.Answer.{pick}
use Rattle.memory.specs.Tables.{pointer_at, live_record, record_of}
use Rattle.memory.specs.declared.LiveRecord.{LiveRecord}

-- the tables have their lengths, and p is a pointer's number
unfoldable pub in_tables : (depth p frames pointers : ℕ) → Bool
in_tables d p frames pointers = eqb frames 260 && (eqb pointers 20480 && (leb d 64 && ltb p 4096))

unfoldable pub record_in : (depth : ℕ) → (frames pointers : List ℕ) → (p : ℕ) → LiveRecord
record_in d fr ps p = pick (in_tables d p (length fr) (length ps)) (record_of d fr (pointer_at ps p)) (live_record 0 0 0 0)
