-- The live list in columns that have as much room as was asked.
use Rattle.std.proofs.Common.{◌≡◌, ℕ, min, List, length, take}
use Rattle.words.specs.Text.{Text}
use Rattle.memory.specs.Tables.{State}
use Rattle.eval.specs.Host.{host_listed}
use Rattle.telling.specs.Told.{line}
use Rattle.telling.specs.Listed.{listing_line}
use Rattle.telling.proofs.Telling.{part-told}

-- columns with as much room as was asked
pub live-told : (column : List ℕ) (room n : ℕ) (t : State) (before : List ℕ) {r : Text} → n ≡ min room (length column)
    → r ≡ line (listing_line t.memory.registers.pointers (host_listed t (take n column) (take n column) (take n column) (take n column))) before
    → r ≡ line (listing_line t.memory.registers.pointers (host_listed t (take room column) (take room column) (take room column) (take room column))) before
live-told column room n t before = part-told (λ l. listing_line t.memory.registers.pointers (host_listed t l l l l)) room n column before
