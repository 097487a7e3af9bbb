-- "`start FUNCTION KIND BITS [KIND BITS]...`": a start from a line's values; and a line that cannot be read.
use Rattle.std.specs.Prelude.{ℕ, ◌+◌, ◌%◌, ◌^◌, min, List, length, replicate, slice_index, slice_range}
use Rattle.answers.specs.Lines.{Pieces, cannot_read_line}
use Rattle.memory.specs.Tables.{State}
use Rattle.instruction.specs.declared.variables.Found.{Found}
use Rattle.instruction.specs.Variables.{found}
use Rattle.eval.specs.Entry.{Entering}
use Rattle.eval.specs.Start.{start_entered}

-- ---- a start's values

-- how many values end a line, of those that the tables hold
abbrev pub value_count : (count : ℕ) → (tags bits : List ℕ) → ℕ
value_count n ts bs = min n (min (length ts) (length bs))

-- "the context, then up to 64 arguments"
abbrev pub value_room : ℕ
value_room = 65

abbrev pub context_of : (tags bits : List ℕ) → Found
context_of ts bs = found (slice_index ts 0) (slice_index bs 0)

abbrev pub arguments_of : (count : ℕ) → List ℕ → List ℕ
arguments_of n l = slice_range l 1 n

-- "`start FUNCTION KIND BITS [KIND BITS]...` → `ok`"
unfoldable pub begun_of : (image : List ℕ) → (function count : ℕ) → (tags bits : List ℕ) → State → Entering
begun_of s f n ts bs t =
    start_entered s f (context_of ts bs) (arguments_of (value_count n ts bs) ts) (arguments_of (value_count n ts bs) bs) t

abbrev pub budget_of : ℕ → ℕ
budget_of n = n % 2 ^ 32

-- ---- a line that cannot be read

-- "What cannot be read .. is answered by one line .., `cannot read: word N` (counted from 1), nothing is done"; the word is counted as 64 bits hold it
abbrev pub unread_line : (word : ℕ) → Pieces
unread_line w = cannot_read_line ((w + 1) % 2 ^ 64)

-- the tables that a line's values go into, before it is read
abbrev pub zeros : List ℕ
zeros = replicate value_room 0

-- "A line may be 262,144 bytes long; a longer one is one bad line."
abbrev pub longest : ℕ
longest = 262144
