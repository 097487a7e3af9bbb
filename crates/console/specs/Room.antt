-- The program lends its console 1,114,488 bytes for an answer. No answer is longer, not even a dump of full tables.
use Rattle.std.specs.Prelude.{ℕ, ◌≤◌, ◌≡◌, Some, List, length}
use Rattle.words.specs.Room.{size}
use Rattle.memory.specs.Tables.{State}
use Rattle.console.specs.Turns.{answered_of, keeping}

-- every line is answered to its last byte, whatever the line, the image and the tables, on a store of at most 32,768 bytes
abbrev pub AnswerHasRoom : Type 0
AnswerHasRoom =
    (n : ℕ) (l image bytes : List ℕ) (t : State) (out : List ℕ) → length t.memory.store ≤ 32768 → 1114488 ≤ length out
    → (keeping out (answered_of n l image bytes t)).turn.text ≡ Some (size (answered_of n l image bytes t).done.line)
