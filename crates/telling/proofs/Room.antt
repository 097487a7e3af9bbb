-- How many bytes the line of an entry's answer can have.
use Rattle.std.specs.Prelude.{Option, Some, None, Result, Ok, Err, ⊤}
use Rattle.std.proofs.Common.{◌≡◌, ℕ, ◌≤◌, leb, List, length, take, drop, replicate, arith, length-take, leb-true}
use native.Mathlib.Nat.{min-le_left, min-le_right}
use lib.ListN.{length-replicate}
use Rattle.value.specs.declared.refusal.Refusal.{Refusal}
use Rattle.value.specs.Refusal.{number_of, not_sound, short_table}
use Rattle.value.proofs.Truth.{both_true}
use Rattle.words.specs.Room.{size}
use Rattle.words.proofs.Room.{decimal-size, size-append}
use Rattle.answers.specs.Lines.{Pieces, ending, ok_line, stepped_line}
use Rattle.answers.proofs.Room as Answers
use Rattle.by_hand.specs.State.{each}
use Rattle.by_hand.proofs.Room.{either, each-size}
use Rattle.image.specs.Parse.{Got, took, refused}
use Rattle.image.specs.Program.{Program}
use Rattle.image.specs.Written.{written}
use Rattle.image.specs.declared.number.Stop.{Stop}
use Rattle.image_writer.specs.Answer.{outcome, buffer}
use Rattle.memory.specs.declared.Registers.{Registers}
use Rattle.memory.specs.declared.Source.{Source}
use Rattle.memory.specs.declared.Source.TheVariants as source
use Rattle.memory.specs.Tables.{State, Columns, Listing, listing, ready, roomy_of, listed_of, sound_of, read_access_of, constant_access_of, taken_at, constant_of, get_at, read_of}
use Rattle.instruction.specs.declared.variables.Found.{Found}
use Rattle.instruction.specs.declared.step.Progress.{Progress}
use Rattle.instruction.specs.declared.step.Progress.TheVariants as progress
use Rattle.run.specs.declared.Ran.{Ran}
use Rattle.run.specs.declared.Ran.TheVariants as ran
use Rattle.loader.specs.Tables.{loaded_from}
use Rattle.loader.specs.declared.load.Loaded.{Loaded}
use Rattle.eval.specs.Host.{host_listed}
use Rattle.eval.specs.Loaded.{items_of}
use Rattle.eval.specs.Entry.{Reading, read_loaded, read_after, read_entered}
use Rattle.eval.specs.declared.entry.EntryError.{EntryError}
use Rattle.eval.specs.declared.entry.EntryError.TheVariants as entry
use Rattle.telling.specs.Told.{stop_line, error_line, end_line, ran_line, last_line, entered_line, start_line, step_line, fresh_line, given_line, outcome_line, read_line, rewritten_line}
use Rattle.telling.specs.Listed.{record_at, columns_line, listing_line, room_for, live_line_of}
use Rattle.telling.specs.Starts.{unread_line}

-- ---- lines of a few words

stop-size : (e : Stop) → size (stop_line e) ≤ 128
stop-size e = Answers.image_refused_size (number_of e.why) e.place

error-size : (e : EntryError) → size (error_line e) ≤ 128
error-size (entry.Refused why) = Answers.refusal-size (number_of why)
error-size (entry.NotLoaded e) = stop-size e

end-size : (v : Option Found) (n : ℕ) → size (end_line v n) ≤ 128
end-size (Some v) n = Answers.returned-size v.tag v.bits n
end-size None n = Answers.returned_none_size n

pub ran-size : (r : Result Ran EntryError) → size (ran_line r) ≤ 128
ran-size (Ok (ran.Returned m v n)) = end-size v n
ran-size (Ok (ran.Paused m n)) = Answers.paused-size n
ran-size (Ok (ran.Stopped m why n)) = Answers.refused-size (number_of why) n
ran-size (Err (entry.Refused why)) = Answers.refused-size (number_of why) 0
ran-size (Err (entry.NotLoaded e)) = stop-size e

last-size : (v : Option Found) → size (last_line v) ≤ 128
last-size (Some v) = Answers.value-size v.tag v.bits
last-size None = Answers.no_value_size

entered-size : (went : Pieces) → size went ≤ 128 → (r : Result Progress EntryError) → size (entered_line went r) ≤ 128
entered-size went h (Ok (progress.Next m)) = h
entered-size went h (Ok (progress.Ended m v)) = last-size v
entered-size went h (Err e) = error-size e

pub start-size : (r : Result Progress EntryError) → size (start_line r) ≤ 128
start-size r = entered-size ok_line Answers.ok-size r

pub step-size : (r : Result Progress EntryError) → size (step_line r) ≤ 128
step-size r = entered-size stepped_line Answers.stepped-size r

pub fresh-size : (r : Result Registers Refusal) → size (fresh_line r) ≤ 128
fresh-size (Ok m) = Answers.ok-size
fresh-size (Err why) = Answers.refusal-size (number_of why)

pub given-size : (g : Result (ℕ × Registers) Refusal) → size (given_line g) ≤ 128
given-size (Ok (p, m)) = Answers.pointer-size p
given-size (Err why) = Answers.refusal-size (number_of why)

pub outcome-size : (o : Result ⊤ Refusal) → size (outcome_line o) ≤ 128
outcome-size (Ok u) = Answers.ok-size
outcome-size (Err why) = Answers.refusal-size (number_of why)

pub unread_size : (w : ℕ) → size (unread_line w) ≤ 128
unread_size w = Answers.cannot_read_size _

-- ---- lines of at most 32,768 bytes as HEX

few-size : {n : ℕ} → n ≤ 128 → n ≤ 65543
few-size h = omega arith

pub read-size : (r : Result ⊤ EntryError) (bs : List ℕ) → length bs ≤ 32768 → size (read_line r bs) ≤ 65543
read-size (Ok u) bs h = Answers.bytes-size bs 32768 h (omega arith)
read-size (Err e) bs h = few-size (error-size e)

-- what a host read leaves in its buffer is no longer than that
module _ (bytes : List ℕ) where
  part-inside : (at : ℕ) (from : List ℕ) → length (take (length bytes) (drop at from)) ≤ length bytes
  part-inside at from = omega (arith, length-take (length bytes) (drop at from), min-le_left (length bytes) (length (drop at from)))

  taken-inside : (p : Result ℕ Refusal) (raw : List ℕ) → length (taken_at p bytes raw).table ≤ length bytes
  taken-inside (Ok at) raw = part-inside at raw
  taken-inside (Err n) raw = omega arith

  got-inside : (p : Result Source Refusal) (store raw extents : List ℕ) → length (get_at p store bytes raw extents).table ≤ length bytes
  unfolding constant_of
  got-inside (Ok (source.Local at)) store raw extents = part-inside at store
  got-inside (Ok (source.Constant k)) store raw extents = taken-inside (constant_access_of k (length bytes) raw extents) raw
  got-inside (Err n) store raw extents = omega arith

  module _ (s : List ℕ) (p : ℕ) (t : State) where
    after-inside : (r : Result Loaded Stop) → length (read_after r (items_of s) p bytes t).bytes ≤ length bytes
    unfolding read_loaded read_of
    after-inside (Ok l) =
        either (λ (x : Reading). length x.bytes ≤ length bytes) (sound_of t)
        (λ e. got-inside (read_access_of t.memory p (length bytes)) t.memory.store (items_of s).bytes (items_of s).extents) (λ e. omega arith)
    after-inside (Err e) = omega arith

    pub read-inside : length (read_entered s p bytes t).bytes ≤ length bytes
    unfolding read_entered
    read-inside = after-inside (loaded_from s)

-- what the image writer wrote is no longer than its buffer
pub rewritten_size : (g : Got Program) (room : List ℕ) → length room ≤ 32768 → size (rewritten_line (outcome g room) (buffer g room)) ≤ 65543
unfolding outcome buffer
rewritten_size (refused why place) room h = few-size (Answers.image_refused_size (number_of why) place)
rewritten_size (took P end) room h =
    either (λ x. size (rewritten_line x (buffer (took P end) room)) ≤ 65543) (leb (length (written P)) (length room))
    (λ e. Answers.bytes-size (take (length (written P)) (buffer (took P end) room)) 32768
    (omega (arith, length-take (length (written P)) (buffer (took P end) room), min-le_left (length (written P)) (length (buffer (took P end) room)), leb-true (length (written P)) (length room) e))
    (omega arith))
    (λ e. few-size (Answers.refusal-size _))

-- ---- the live list, with room for at most 4,096 pointers

columns-size : (n : ℕ) (c : Columns) → n ≤ 4096 → size (columns_line n c) ≤ 344090
unfolding record_at
columns-size n c h =
    let rows = each n 0 (record_at c.live c.frame c.allocation c.offset) in
    let each-record = each-size 84 (record_at c.live c.frame c.allocation c.offset) n 0 (λ i l. Answers.live-size _ _ _ _) in
    omega (arith, decimal-size n, size-append rows ending, each-record)

-- a part of a list has at most the list's length
pub part_count : (n : ℕ) (l : List ℕ) {most : ℕ} → length l ≡ most → length (take n l) ≤ most
part_count n l h = omega (arith, length-take n l, min-le_right n (length l))

module _ (t : State) (l : List ℕ) (h : length l ≤ 4096) where
  abbrev Fits : Listing → Type 0
  Fits x = size (listing_line t.memory.registers.pointers x) ≤ 344090

  refused-fits : (why : Refusal) → Fits (listing (Err why) l l l l)
  refused-fits why = omega (arith, Answers.refusal-size (number_of why))

  listed-fits : Fits (host_listed t l l l l)
  unfolding host_listed listed_of roomy_of
  listed-fits =
      let n = t.memory.registers.pointers in
      either Fits (sound_of t)
      (λ a. either Fits (ready t.memory)
      (λ b. either Fits (roomy_of n (length l) (length l) (length l) (length l))
      (λ c. columns-size n _ (omega (arith, leb-true n (length l) (both_true (leb n (length l)) _ c).0))) (λ c. refused-fits short_table)) (λ b. refused-fits not_sound)) (λ a. refused-fits not_sound)

pub live-size : (room : ℕ) (t : State) → size (live_line_of room t) ≤ 344090
unfolding live_line_of
live-size room t = listed-fits t (room_for room) (part_count room (replicate 4096 0) (length-replicate {A = ℕ} 4096 0))
