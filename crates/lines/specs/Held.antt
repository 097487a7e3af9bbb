-- "a line ends with LF, the last one may end with the input." A line is read from parts of the input into a buffer. "A line may be 262,144 bytes
-- long; a longer one is one bad line": the buffer holds one byte more than that, and a line is cut at the buffer's length, so a longer one is seen to be.
use Rattle.std.specs.Prelude.{ℕ, ◌+◌, not, min, List, length, take, ltb, eqb}
use Rattle.words.specs.Words.{until}
use Rattle.lines.specs.declared.Held.{Held}

-- the bytes of a part that belong to the line, its LF left out
abbrev pub line_in : List ℕ → List ℕ
line_in part = take (until 10 part) part

-- in a buffer with so much room, after so many bytes of the line, a part that begins at a place: the LF is passed, and the line is whole where there is one
unfoldable pub held_after : (room kept at : ℕ) → (part : List ℕ) → Held
held_after room kept at part = record {
  length = min room (kept + until 10 part);
  at = at + min (until 10 part + 1) (length part);
  whole = ltb (until 10 part) (length part);
}

-- the end of the input ends a line that has a byte
unfoldable pub held_at_end : (kept : ℕ) → Held
held_at_end kept = record { length = kept; at = 0; whole = not (eqb kept 0) }
