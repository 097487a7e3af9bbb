-- "state RUNNING NEXT COUNTER | F F.. | COUNT P P.. | I=KIND:BITS .. | COUNT HEX": the pieces of each part.
use Rattle.std.specs.Prelude.{ℕ, Option, Some, None, List, [], ◌∷◌, ◌++◌, length}
use Rattle.words.specs.Ascii.{ascii}
use Rattle.words.specs.Number.{decimal}
use Rattle.words.specs.Hex.{hex_of}
use Rattle.words.specs.Kinds.{name_of}
use Rattle.answers.specs.Lines.{Pieces, ending, labelled}

abbrev pub state_text : (running next counter : ℕ) → Pieces
state_text r n c = labelled (ascii "state ") r ++ labelled (ascii " ") n ++ labelled (ascii " ") c ++ (ascii " |" ∷ [])

-- "VAR `-` for none"
abbrev pub var_piece : Option ℕ → List ℕ
var_piece (Some n) = decimal n
var_piece None = ascii "-"

abbrev pub var_text : Option ℕ → Pieces
var_text v = var_piece v ∷ []

-- "the lengths of its allocations parted by commas, `-` where it has none"
abbrev pub next_length : ℕ → Pieces
next_length l = labelled (ascii ",") l

unfoldable pub more_lengths : List ℕ → Pieces
more_lengths [] = []
more_lengths (l ∷ ls) = next_length l ++ more_lengths ls

unfoldable pub lengths_text : List ℕ → Pieces
unfolding more_lengths
lengths_text [] = ascii "-" ∷ []
lengths_text (l ∷ ls) = decimal l ∷ more_lengths ls

-- "ID:PLACE:VAR:LENGTHS", after a space
abbrev pub frame_head : (id place : ℕ) → Option ℕ → Pieces
frame_head i p v = labelled (ascii " ") i ++ labelled (ascii ":") p ++ (ascii ":" ∷ []) ++ var_text v ++ (ascii ":" ∷ [])

abbrev pub frame_text : (id place : ℕ) → Option ℕ → List ℕ → Pieces
frame_text i p v ls = frame_head i p v ++ lengths_text ls

-- "cK" and "lFRAME:ID:ALLOCATION:OFFSET", after a space
abbrev pub constant_text : ℕ → Pieces
constant_text k = labelled (ascii " c") k

abbrev pub local_text : (frame id allocation offset : ℕ) → Pieces
local_text f i a o = labelled (ascii " l") f ++ labelled (ascii ":") i ++ labelled (ascii ":") a ++ labelled (ascii ":") o

-- "I=KIND:BITS", after a space
abbrev pub variable_text : (place tag bits : ℕ) → Pieces
variable_text i t b = labelled (ascii " ") i ++ (ascii "=" ∷ name_of t ∷ []) ++ labelled (ascii ":") b

-- "| COUNT HEX", after a space
abbrev pub store_text : List ℕ → Pieces
store_text bs = labelled (ascii " | ") (length bs) ++ (ascii " " ∷ hex_of bs ∷ ending)
