-- The parts of a line after its command. "What cannot be read, a number out of the range named .., a word too many or too few" is a word of the line.
use Rattle.std.specs.Prelude.{ℕ, ◌+◌, ◌-◌, ◌^◌, Option, Some, None, Result, Ok, Err, List, [], length, get_or, drop, leb, eqb}
use Rattle.std.proofs.lemmas.List.Edits.{sets}
use Rattle.value.specs.Answer.{pick}
use Rattle.value.specs.Bytes.{same_bytes}
use Rattle.words.specs.Ascii.{ascii}
use Rattle.words.specs.Number.{up_to}
use Rattle.words.specs.Hex.{hex_answer, hex_buffer}
use Rattle.words.specs.Kinds.{kind_read, bits_read}
use Rattle.words.specs.Pairs.{values_from}
use Rattle.words.specs.declared.HexError.{HexError}
use Rattle.words.specs.declared.BadWord.{BadWord}
use Rattle.commands.specs.declared.part.Part.{Part}
use Rattle.commands.specs.declared.part.Part.TheVariants as part
use Rattle.commands.specs.declared.part.End.{End}
use Rattle.commands.specs.declared.part.End.TheVariants as end
use Rattle.commands.specs.declared.part.Spot.{Spot}

-- ---- what a part may be

-- no part; any number; 0 or 1; a variable, below 256; room for pointers; a size; a budget; F; VAR; KIND; BITS
abbrev pub nothing : Option Part
nothing = None

abbrev pub any : Option Part
any = Some (part.UpTo (2 ^ 64 - 1))

abbrev pub flag : Option Part
flag = Some (part.UpTo 1)

abbrev pub variable : Option Part
variable = Some (part.UpTo 255)

abbrev pub list_room : Option Part
list_room = Some (part.UpTo 4096)

abbrev pub size : Option Part
size = Some (part.UpTo 32768)

abbrev pub budget : Option Part
budget = Some (part.UpTo 4294967295)

abbrev pub frame : Option Part
frame = Some part.Frame

abbrev pub var : Option Part
var = Some part.Var

abbrev pub kind : Option Part
kind = Some part.Kind

abbrev pub bits : Option Part
bits = Some part.Bits

-- ---- a word as a part

-- "F below the depth"
abbrev pub frame_read : (depth : ℕ) → List ℕ → Option ℕ
frame_read d w = pick (eqb d 0) None (up_to (d - 1) w)

abbrev pub one_more : Option ℕ → Option ℕ
one_more (Some n) = Some (n + 1)
one_more None = None

-- "VAR `-` for none", as a frame's record holds it: 0 for none, else the number and one
abbrev pub var_read : List ℕ → Option ℕ
var_read w = pick (same_bytes w (ascii "-")) (Some 0) (one_more (up_to (2 ^ 64 - 2) w))

-- what a word says as such a part; bits are those of the kind before them
abbrev pub part_read : Part → (depth before : ℕ) → List ℕ → Option ℕ
part_read (part.UpTo most) d b w = up_to most w
part_read part.Frame d b w = frame_read d w
part_read part.Var d b w = var_read w
part_read part.Kind d b w = kind_read w
part_read part.Bits d b w = bits_read b w

-- ---- one part after the other

-- a number was read, and this is the next word
abbrev pub good : (value next : ℕ) → Result Spot BadWord
good v k = Ok (record { value = v; next = k })

-- this word cannot be read
abbrev pub bad : {A : Type 0} → ℕ → Result A BadWord
bad k = Err (record { 0 = k })

abbrev pub after : Option ℕ → ℕ → Result Spot BadWord
after (Some n) k = good n (k + 1)
after None k = bad k

-- one part more, or none
abbrev pub part_after : Option Part → (depth : ℕ) → Spot → List (List ℕ) → Result Spot BadWord
part_after None depth s ws = good 0 s.next
part_after (Some p) depth s ws = after (part_read p depth s.value (get_or ws s.next [])) s.next

-- ---- the line's end

-- "a word too many"
abbrev pub ended_at : List (List ℕ) → (k value : ℕ) → Result ℕ BadWord
ended_at ws k v = pick (leb (length ws) k) (Ok v) (bad k)

abbrev pub hex_end : Result ℕ HexError → List (List ℕ) → ℕ → Result ℕ BadWord
hex_end (Ok n) ws k = ended_at ws (k + 1) n
hex_end (Err e) ws k = bad k

-- the end from a word on, where HEX has room for so many bytes and there is room for so many values
abbrev pub end_after : End → (hex_room value_room k : ℕ) → List (List ℕ) → Result ℕ BadWord
end_after end.Nothing h v k ws = ended_at ws k 0
end_after end.Hex h v k ws = hex_end (hex_answer (get_or ws k []) h) ws k
end_after end.Values h v k ws = (values_from v 0 k (drop k ws)).end

-- the buffers afterwards: HEX and values stand at their start, where the line has them
abbrev pub bytes_left : End → (k : ℕ) → List (List ℕ) → List ℕ → List ℕ
bytes_left end.Hex k ws before = hex_buffer (get_or ws k []) before
bytes_left _ k ws before = before

abbrev pub tags_left : End → (value_room k : ℕ) → List (List ℕ) → List ℕ → List ℕ
tags_left end.Values v k ws before = sets before 0 (values_from v 0 k (drop k ws)).tags
tags_left _ v k ws before = before

abbrev pub bits_left : End → (value_room k : ℕ) → List (List ℕ) → List ℕ → List ℕ
bits_left end.Values v k ws before = sets before 0 (values_from v 0 k (drop k ws)).bits
bits_left _ v k ws before = before
