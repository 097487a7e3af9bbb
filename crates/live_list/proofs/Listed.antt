-- The live list as its functions meet it: one record after another, and one record where the tables have it.
use mathlib.Core.Path.{◌≡◌}
use mathlib.Core.List.{List}
use Prim.Native.Nat.{ℕ, ◌+◌, ◌≤◌, ◌<◌}
use native.Mathlib.Numerals.{add-one}
use lib.ListN.{set, length}
use borrow.Author.Tests.{lt-ltb, le-leb, eq-eqb}
use Rattle.memory.specs.Tables.{Columns, pointer_at, record_of, filled, columns, filled_of}
use Rattle.memory.specs.declared.LiveRecord.{LiveRecord}
use Rattle.live_list.specs.Record.{in_tables, record_in}

module _ (d : ℕ) (fr ps : List ℕ) (p : ℕ) where
  pub recorded_in : d ≤ 64 → p < 4096 → length fr ≡ 260 → length ps ≡ 20480 → record_in d fr ps p ≡ record_of d fr (pointer_at ps p)
  unfolding record_in in_tables
  recorded_in a b f q = rw (eq-eqb _ _ f, eq-eqb _ _ q, le-leb d 64 a, lt-ltb p 4096 b)

-- a record is put in each of the four slices
abbrev pub put : Columns → ℕ → LiveRecord → Columns
put c n r = columns (set c.live n r.live) (set c.frame n r.frame) (set c.allocation n r.allocation) (set c.offset n r.offset)

pub filled_more : (d n : ℕ) (fr ps l f a o : List ℕ) (c : Columns) (r : LiveRecord) → c ≡ filled_of d n fr ps l f a o
    → r ≡ record_of d fr (pointer_at ps n) → put c n r ≡ filled_of d (n + 1) fr ps l f a o
unfolding filled
filled_more d n fr ps l f a o c r e g = rw (add-one, e, g)
