-- Demand 3's live list is the table's: the table shows, record by record, what `host_list` tells in slices as long as the table, so `code_lists_as_told` says what it shows.
use Rattle.std.specs.Prelude.{Result, Ok, Err, ⊤}
use Prim.Native.Nat.{ℕ, ◌≤◌, min}
use native.Mathlib.Nat.{le-min}
use mathlib.Core.Bool.{true, false}
use mathlib.Core.Path.{◌≡◌, refl, sym, ap, ◌∙◌}
use mathlib.Core.List.{List}
use lib.ListN.{get_or, length, replicate, length-replicate}
use lib.Dec.{leb}
use borrow.Author.Tests.{leb-true}
use Rattle.value.specs.declared.refusal.Refusal.{Refusal}
use Rattle.memory.specs.Live.{Live, listed}
use Rattle.memory.specs.View.{tab, live_in}
use Rattle.memory.specs.Tables.{State, roomy_of, listed_of, sound_of}
use Rattle.memory.proofs.Every.{by_test}
use Rattle.memory.proofs.Facts.{ready_test}
use Rattle.memory.proofs.Tab.{tab-same}
use Rattle.machine.specs.Asks.{Ask, Reply, lists, refusal}
use Rattle.machine.specs.History.{told_list}
use Rattle.machine.specs.Demand.{tells}
use Rattle.eval.specs.Host.{host_listed}
use Rattle.promise.specs.Calls.{call_list, call}
use Rattle.promise.specs.Promised.{After}
use Rattle.promise.proofs.Told.{code_lists_as_told}
use Rattle.live_table.specs.Table.{record_at, tabled_of}
use Rattle.live_table.specs.declared.PointerRecord.{PointerRecord}
use Rattle.live_table.proofs.Filled.{filled-below}
use Rattle.live_table.proofs.Listed.{sound-tables, listed-done, listed-row}

-- a record, and no record, in the machine's words
abbrev pub live_of : PointerRecord → Live
live_of r = listed r.live r.frame r.allocation r.offset

abbrev none : PointerRecord
none = record { live = false; frame = 0; allocation = 0; offset = 0 }

-- what a host reads in the table after an answer
abbrev pub table_reply : (pointers : ℕ) → Result ⊤ Refusal → List PointerRecord → Reply
table_reply n (Ok u) l = lists (tab n (λ p. live_of (get_or l p none)))
table_reply n (Err why) l = refusal why

module _ (t : State) (ys : List PointerRecord) where
  abbrev n : ℕ
  n = t.memory.registers.pointers

  abbrev zeros : List ℕ
  zeros = replicate (length ys) 0

  abbrev told : Reply
  told = (call (call_list zeros zeros zeros zeros) t).reply

  abbrev shows : Reply
  shows = table_reply n (tabled_of t ys).answer (tabled_of t ys).table

  roomy_is : roomy_of n (length zeros) (length zeros) (length zeros) (length zeros) ≡ leb n (length ys)
  unfolding roomy_of
  roomy_is = rw (length-replicate {A = ℕ} (length ys) 0) (by_test (leb n (length ys)) (λ u. rw u refl) (λ u. rw u refl))

  filled_alike : sound_of t ≡ true → leb n (length ys) ≡ true → shows ≡ told
  unfolding tabled_of live_in
  filled_alike s u =
      rw (s, u, listed-done t zeros zeros zeros zeros s (roomy_is ∙ u))
      (ap lists (tab-same n _ _ (λ p h.
      ap live_of (filled-below (record_at t.memory) ys n p none h (leb-true n (length ys) u) ∙ sym (listed-row t zeros zeros zeros zeros s (roomy_is ∙ u) p h)))))

  short_alike : sound_of t ≡ true → leb n (length ys) ≡ false → shows ≡ told
  unfolding tabled_of host_listed listed_of
  short_alike s u = rw (s, u, ready_test _ _ _ _ _ _ (sound-tables t s).ready, roomy_is ∙ u) refl

  unsound_alike : sound_of t ≡ false → shows ≡ told
  unfolding tabled_of host_listed
  unsound_alike s = rw s refl

  -- the table shows what `host_list` tells in slices of its length
  pub shows_as_listed : shows ≡ told
  shows_as_listed = by_test (sound_of t) (λ s. by_test (leb n (length ys)) (filled_alike s) (short_alike s)) unsound_alike

room-same : (k n : ℕ) → k ≤ n → k ≤ min n (min n (min n n))
room-same k n h = le-min h (le-min h (le-min h h))

-- After any calls on fresh tables, a table with a record for each pointer that was given shows the list that is told.
pub code_tables_as_told : (as' : List Ask) (t : State) → After as' t → (ys : List PointerRecord) → length (tells as').given ≤ length ys
    → table_reply t.memory.registers.pointers (tabled_of t ys).answer (tabled_of t ys).table ≡ lists (told_list (tells as'))
code_tables_as_told as' t after ys fits =
    let zeros : List ℕ = replicate (length ys) 0 in
    shows_as_listed t ys ∙ code_lists_as_told as' t after zeros zeros zeros zeros (rw (length-replicate {A = ℕ} (length ys) 0) (room-same (length (tells as').given) (length ys) fits))
