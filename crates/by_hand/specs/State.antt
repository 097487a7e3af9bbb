-- "`state RUNNING NEXT COUNTER | F F.. | COUNT P P.. | I=KIND:BITS .. | COUNT HEX`", as the tables hold it. "An empty list of pointers, variables
-- or bytes is `-`."
use Rattle.std.specs.Prelude.{ℕ, zero, suc, ◌+◌, ◌-◌, ◌*◌, min, Bool, true, ◌&&◌, Option, Some, None, List, [], ◌∷◌, ◌++◌, get_or, take, drop, eqb}
use Rattle.value.specs.Answer.{pick}
use Rattle.words.specs.Ascii.{ascii}
use Rattle.answers.specs.Lines.{Pieces, labelled}
use Rattle.answers.specs.Dump.{state_text, frame_text, constant_text, local_text, variable_text, store_text}
use Rattle.memory.specs.declared.Registers.{Registers}

abbrev pub none : Pieces
none = ascii " -" ∷ []

-- the texts of so many things, from one on
unfoldable pub each : (count : ℕ) → (from : ℕ) → (ℕ → Pieces) → Pieces
each zero i f = []
each (suc n) i f = f i ++ each n (i + 1) f

-- ---- frames

-- a word says the return variable and one, or 0 for none
abbrev pub var_of : ℕ → Option ℕ
var_of w = pick (eqb w 0) None (Some (w - 1))

-- from each allocation's start to the next one's
unfoldable pub lengths_from : (count : ℕ) → List ℕ → (from : ℕ) → List ℕ
lengths_from zero bounds k = []
lengths_from (suc n) bounds k = (get_or bounds (k + 1) 0 - get_or bounds k 0) ∷ lengths_from n bounds (k + 1)

abbrev pub lengths_of : List ℕ → List ℕ
lengths_of bounds = lengths_from 512 bounds 0

-- those of one frame: from its first allocation to the next frame's
abbrev pub frame_at : (frames lengths : List ℕ) → ℕ → Pieces
frame_at fr ls i =
    frame_text (get_or fr (i * 4) 0) (get_or fr (i * 4 + 1) 0) (var_of (get_or fr (i * 4 + 2) 0))
    (take (get_or fr (i * 4 + 7) 0 - get_or fr (i * 4 + 3) 0) (drop (get_or fr (i * 4 + 3) 0) ls))

abbrev pub frames_text : (depth : ℕ) → (frames lengths : List ℕ) → Pieces
frames_text d fr ls = each (min d 64) 0 (frame_at fr ls)

-- ---- pointers

abbrev pub pointer_at : List ℕ → ℕ → Pieces
pointer_at ps p =
    pick (eqb (get_or ps (p * 5) 0) 0)
    (local_text (get_or ps (p * 5 + 1) 0) (get_or ps (p * 5 + 2) 0) (get_or ps (p * 5 + 3) 0) (get_or ps (p * 5 + 4) 0)) (constant_text (get_or ps (p * 5 + 1) 0))

abbrev pub pointers_text : (count : ℕ) → List ℕ → Pieces
pointers_text n ps = labelled (ascii " | ") n ++ pick (eqb n 0) none (each (min n 4096) 0 (pointer_at ps))

-- ---- variables

abbrev pub variable_at : List ℕ → ℕ → Pieces
variable_at vs i = pick (eqb (get_or vs (i * 2) 0) 0) [] (variable_text i (get_or vs (i * 2) 0) (get_or vs (i * 2 + 1) 0))

unfoldable pub none_set : (count : ℕ) → List ℕ → (from : ℕ) → Bool
none_set zero vs i = true
none_set (suc n) vs i = eqb (get_or vs (i * 2) 0) 0 && none_set n vs (i + 1)

abbrev pub variables_text : List ℕ → Pieces
variables_text vs = (ascii " |" ∷ []) ++ pick (none_set 256 vs 0) none (each 256 0 (variable_at vs))

-- ---- the store

-- how many bytes are live: the bound after the last allocation, whose number stands above the top frame
abbrev pub live_bytes : (depth : ℕ) → (frames bounds : List ℕ) → ℕ
live_bytes d fr bounds = get_or bounds (min (get_or fr (min d 64 * 4 + 3) 0) 512) 0

-- ---- the line

abbrev pub dump_line : Registers → (store frames bounds pointers variables : List ℕ) → Pieces
dump_line m store fr bounds ps vs =
    state_text m.running m.next m.counter ++ frames_text m.depth fr (lengths_of bounds) ++ pointers_text m.pointers ps ++ variables_text vs
    ++ store_text (take (live_bytes m.depth fr bounds) store)
