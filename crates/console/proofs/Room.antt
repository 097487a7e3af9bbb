-- Every answer of the console has at most 1,114,488 bytes: the dump by its own law, every other by far less.
use Prim.Native.Nat.{ℕ, ◌≤◌}
use native.Mathlib.Omega.{arith}
use mathlib.Core.List.{List}
use lib.ListN.{length, take, replicate, length-replicate}
use lib.Dec.{ltb}
use Rattle.words.specs.Room.{size}
use Rattle.words.proofs.Room.{roomy}
use Rattle.answers.specs.Lines.{Pieces}
use Rattle.answers.proofs.Room.{ok-size, image-size}
use Rattle.std.specs.Prelude.{Result, Ok, Err}
use Rattle.words.specs.declared.BadWord.{BadWord}
use Rattle.commands.specs.declared.Asked.{Asked}
use Rattle.commands.specs.declared.Parts.{Parts}
use Rattle.commands.specs.declared.command.Command.{Command}
use Rattle.commands.specs.declared.command.Command.TheVariants as command
use Rattle.by_hand.proofs.Room.{either, dump-size}
use Rattle.image.specs.Image.{loaded}
use Rattle.memory.specs.Tables.{State, fresh_of}
use Rattle.eval.specs.Entry.{run_entered, step_entered, read_entered}
use Rattle.eval.specs.Host.{host_allocated, host_written}
use Rattle.telling.specs.Starts.{begun_of, budget_of, longest}
use Rattle.telling.proofs.Room.{ran-size, start-size, step-size, fresh-size, given-size, outcome-size, unread_size, read-size, read-inside, rewritten_size, part_count, live-size}
use Rattle.console.specs.Turns as T
use Rattle.console.specs.Turns.{Done, Performed, registers_of}
use Rattle.console.specs.Room.{AnswerHasRoom}

abbrev Fits : Pieces → Type 0
Fits ps = size ps ≤ 1114488

few : {n : ℕ} → n ≤ 128 → n ≤ 1114488
few h = omega arith

-- ---- each command

bytes_count : (room : ℕ) → length (T.bytes_for room) ≤ 32768
bytes_count room = part_count room (replicate 32768 0) (length-replicate {A = ℕ} 32768 0)

reading-fits : (s : List ℕ) (p : ℕ) (bytes : List ℕ) (t : State) → length bytes ≤ 32768 → Fits (T.reading_line (read_entered s p bytes t))
reading-fits s p bytes t h =
    omega (arith, read-size (read_entered s p bytes t).answer (read_entered s p bytes t).bytes (omega (arith, read-inside bytes s p t)))

module _ (a : Parts) (s : List ℕ) (t : State) where
  read_fits : Fits (T.read_line_of a s t)
  unfolding T.read_line_of
  read_fits = reading-fits s a.first (T.bytes_for a.second) t (bytes_count a.second)

  rewrite-fits : Fits (T.rewrite_line_of a s)
  unfolding T.rewrite_line_of
  rewrite-fits = omega (arith, rewritten_size (loaded s) (T.bytes_for a.first) (bytes_count a.first))

  looked_fits : (c : Command) → length t.memory.store ≤ 32768 → Fits (T.looked_of c a s t)
  looked_fits command.Read h = read_fits
  looked_fits command.Live h = omega (arith, live-size a.first t)
  looked_fits command.Rewrite h = rewrite-fits
  looked_fits _ h = dump-size (registers_of t) t.memory.store t.memory.frames t.memory.bounds t.memory.pointers t.variables h

abbrev DoneFits : Done → Type 0
DoneFits d = Fits d.line

module _ (a : Parts) (t : State) where
  ran-fits : (c : Command) (s ts bs : List ℕ) → DoneFits (T.ran_of s c a ts bs t)
  unfolding T.start_done T.step_done T.run_done
  ran-fits command.Start s ts bs = few (start-size (begun_of s a.first a.count ts bs t).answer)
  ran-fits command.Step s ts bs = few (step-size (step_entered s t).answer)
  ran-fits _ s ts bs = few (ran-size (run_entered s (budget_of a.first) t).answer)

  changed_fits : (c : Command) (bytes : List ℕ) → DoneFits (T.changed_of c a bytes t)
  unfolding T.fresh_done T.allocate_done T.write_done T.poke_done
  changed_fits command.Fresh bytes = few (fresh-size (fresh_of t.memory.store t.memory.frames t.memory.bounds t.memory.pointers t.variables).answer)
  changed_fits command.Allocate bytes = few (given-size (host_allocated t a.first).answer)
  changed_fits (command.Poke w) bytes = few ok-size
  changed_fits _ bytes = few (outcome-size (host_written t a.first (take a.count bytes)).answer)

  machine-fits : (c : Command) (ts bs s bytes : List ℕ) → length t.memory.store ≤ 32768 → DoneFits (T.machine_by c a ts bs s bytes t)
  machine-fits command.Start ts bs s bytes h = ran-fits command.Start s ts bs
  machine-fits command.Step ts bs s bytes h = ran-fits command.Step s ts bs
  machine-fits command.Run ts bs s bytes h = ran-fits command.Run s ts bs
  machine-fits command.Read ts bs s bytes h = looked_fits a s t command.Read h
  machine-fits command.Live ts bs s bytes h = looked_fits a s t command.Live h
  machine-fits command.Rewrite ts bs s bytes h = looked_fits a s t command.Rewrite h
  machine-fits command.Dump ts bs s bytes h = looked_fits a s t command.Dump h
  machine-fits command.Image ts bs s bytes h = changed_fits command.Image bytes
  machine-fits command.Fresh ts bs s bytes h = changed_fits command.Fresh bytes
  machine-fits command.Allocate ts bs s bytes h = changed_fits command.Allocate bytes
  machine-fits command.Write ts bs s bytes h = changed_fits command.Write bytes
  machine-fits (command.Poke w) ts bs s bytes h = changed_fits (command.Poke w) bytes

-- ---- a line

abbrev AllFits : Performed → Type 0
AllFits p = Fits p.done.line

module _ (n : ℕ) (image : List ℕ) (t : State) (h : length t.memory.store ≤ 32768) where
  performed-fits : (c : Command) (a : Parts) (ts bs bytes : List ℕ) → AllFits (T.performed_by n c a ts bs image bytes t)
  performed-fits command.Image a ts bs bytes = few (image-size (T.image_count a.count image bytes))
  performed-fits c a ts bs bytes = machine-fits a t c ts bs (take n image) bytes h

  read_line_fits : (r : Result Asked BadWord) (ts bs bytes : List ℕ) → AllFits (T.read_of n r ts bs image bytes t)
  read_line_fits (Ok a) ts bs bytes = performed-fits a.command a.parts ts bs bytes
  read_line_fits (Err k) ts bs bytes = few (unread_size k.0)

  answered-fits : (l bytes : List ℕ) → AllFits (T.answered_of n l image bytes t)
  unfolding T.answered_of
  answered-fits l bytes =
      let d = (registers_of t).depth in
      either AllFits (ltb longest (length l)) (λ e. few (unread_size 0)) (λ e. read_line_fits (T.line_asked d (length bytes) l) (T.line_tags d l) (T.line_bits d l) (T.line_bytes d l bytes))

pub answer_has_room : AnswerHasRoom
answer_has_room n l image bytes t out h g = roomy (T.answered_of n l image bytes t).done.line out 1114488 (answered-fits n image t h l bytes) g
