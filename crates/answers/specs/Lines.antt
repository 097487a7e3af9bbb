-- The answer lines, each as its pieces, in the words of the program's commands.
use Rattle.std.specs.Prelude.{ℕ, List, [], ◌∷◌, ◌++◌}
use Rattle.words.specs.Ascii.{ascii}
use Rattle.words.specs.Number.{decimal}
use Rattle.words.specs.Hex.{hex_of}
use Rattle.words.specs.Kinds.{name_of}

-- the pieces of a text
abbrev pub Pieces : Type 0
Pieces = List (List ℕ)

-- a line ends with LF
abbrev pub ending : Pieces
ending = ascii "\n" ∷ []

abbrev pub labelled : List ℕ → ℕ → Pieces
labelled label n = label ∷ decimal n ∷ []

-- "returned KIND BITS"
abbrev pub returned_value : (tag bits : ℕ) → Pieces
returned_value t b = ascii "returned " ∷ name_of t ∷ labelled (ascii " ") b

-- "returned KIND BITS steps N"
abbrev pub returned_line : (tag bits steps : ℕ) → Pieces
returned_line t b n = returned_value t b ++ labelled (ascii " steps ") n ++ ending

-- "returned none steps N"
abbrev pub returned_none_line : (steps : ℕ) → Pieces
returned_none_line n = labelled (ascii "returned none steps ") n ++ ending

-- "paused steps N"
abbrev pub paused_line : (steps : ℕ) → Pieces
paused_line n = labelled (ascii "paused steps ") n ++ ending

-- "refused NUMBER steps N"
abbrev pub refused_line : (number steps : ℕ) → Pieces
refused_line r n = labelled (ascii "refused ") r ++ labelled (ascii " steps ") n ++ ending

-- "image refused NUMBER at PLACE"
abbrev pub image_refused_line : (number place : ℕ) → Pieces
image_refused_line r p = labelled (ascii "image refused ") r ++ labelled (ascii " at ") p ++ ending

-- "cannot read: word N"
abbrev pub cannot_read_line : (word : ℕ) → Pieces
cannot_read_line n = labelled (ascii "cannot read: word ") n ++ ending

-- "pointer N"
abbrev pub pointer_line : ℕ → Pieces
pointer_line p = labelled (ascii "pointer ") p ++ ending

-- "bytes HEX"
abbrev pub bytes_line : List ℕ → Pieces
bytes_line bs = ascii "bytes " ∷ hex_of bs ∷ ending

-- "image N bytes"
abbrev pub image_line : ℕ → Pieces
image_line n = labelled (ascii "image ") n ++ (ascii " bytes\n" ∷ [])

abbrev pub counts_one : (variables constants functions : ℕ) → Pieces
counts_one v c f = labelled (ascii "taken variables ") v ++ labelled (ascii " constants ") c ++ labelled (ascii " functions ") f

-- "taken variables V constants C functions F blocks B instructions I"
abbrev pub taken_line : (variables constants functions blocks instructions : ℕ) → Pieces
taken_line v c f b i = counts_one v c f ++ labelled (ascii " blocks ") b ++ labelled (ascii " instructions ") i ++ ending

-- " L FRAME ALLOCATION OFFSET", after "live COUNT"
abbrev pub live_record : (live frame allocation offset : ℕ) → Pieces
live_record l f a o = labelled (ascii " ") l ++ labelled (ascii " ") f ++ labelled (ascii " ") a ++ labelled (ascii " ") o

-- "ok"
abbrev pub ok_line : Pieces
ok_line = ascii "ok\n" ∷ []

-- "stepped"
abbrev pub stepped_line : Pieces
stepped_line = ascii "stepped\n" ∷ []

-- "A refusal is `refused N`"
abbrev pub refusal_line : (number : ℕ) → Pieces
refusal_line r = labelled (ascii "refused ") r ++ ending

-- "returned KIND BITS" and "returned none", as a step answers
abbrev pub value_line : (tag bits : ℕ) → Pieces
value_line t b = returned_value t b ++ ending

abbrev pub no_value_line : Pieces
no_value_line = ascii "returned none\n" ∷ []
