-- The program lends `lir run` and `lir check` 128 bytes each for their line, and no line of theirs is longer.
use Rattle.std.specs.Prelude.{ℕ, ◌≤◌, ◌≡◌, Some, List, length}
use Rattle.words.specs.Room.{size, HasRoom}
use Rattle.image.specs.Image.{image}
use Rattle.once.specs.Runs.{answering, start_answered}
use Rattle.once.specs.Checked.{checked_line}

-- the answer to a start line is written to its last byte, whatever the line, the image and the tables
abbrev pub StartHasRoom : Type 0
StartHasRoom =
    (l s st f b p v out : List ℕ) → 128 ≤ length out
    → (answering out (start_answered l s st f b p v)).place ≡ Some (size (start_answered l s st f b p v).line)

-- and so is what loading any image is answered by
abbrev pub CheckHasRoom : Type 0
CheckHasRoom = (s out : List ℕ) → 128 ≤ length out → HasRoom (checked_line (image s)) out
