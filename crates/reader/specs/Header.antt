-- The reader's answers: what it read, in the definition's words, and the header of an image by itself, which is what loading finds first.
use Rattle.std.specs.Prelude.{ℕ, List, length, Result, Ok, Err}
use Rattle.image.specs.Parse.{Got, took, refused}
use Rattle.image.specs.Image.{Counts, unless_long, header}
use Rattle.image.specs.Answer.{stop}
use Rattle.image.specs.declared.number.Stop.{Stop}
use Rattle.loader.specs.Counts.{held_counts}
use Rattle.reader.specs.declared.Headed.{Headed}

-- what was read by a reader that then stands at `next`
abbrev pub read_to : {A : Type 0} → Result A Stop → (next : ℕ) → Got A
read_to (Ok a) next = took a next
read_to (Err e) next = refused e.why e.place

-- "An over-long image is 4 at place 0, before all else. Then fields in image order": the header's are the first.
unfoldable pub headed : List ℕ → Got Counts
headed s = unless_long (length s) (header s 0)

-- "Header: version 1, then counts"
abbrev pub answered : Got Counts → Result Headed Stop
answered (took n end) = Ok (record { version = 1; counts = held_counts n; end = end })
answered (refused why place) = Err (stop why place)
