-- What a line of the console, or a start line, asks.
use Rattle.std.specs.Prelude.{ℕ, min, ◌≡◌, Option, Result, Ok, Err, List, length}
use Rattle.words.specs.declared.BadWord.{BadWord}
use Rattle.commands.specs.Parts.{part_after, end_after, bytes_left, tags_left, bits_left}
use Rattle.commands.specs.Rows.{row_of, start_row}
use Rattle.commands.specs.Names.{Name, name_read}
use Rattle.commands.specs.declared.command.Command.{Command}
use Rattle.commands.specs.declared.part.Part.{Part}
use Rattle.commands.specs.declared.part.End.{End}
use Rattle.commands.specs.declared.part.Spot.{Spot}
use Rattle.commands.specs.declared.row.Row.{Row}
use Rattle.commands.specs.declared.Parts.{Parts}
use Rattle.commands.specs.declared.Asked.{Asked}

-- ---- the parts of a row

-- one part after the others; after a word that cannot be read, none
abbrev pub next_part : Option Part → (depth : ℕ) → Result Spot BadWord → List (List ℕ) → Result Spot BadWord
next_part p d (Ok s) ws = part_after p d s ws
next_part p d (Err k) ws = Err k

-- where reading stands after each part, from a word on, on a machine of this depth
abbrev pub part₁ : Row → (depth next : ℕ) → List (List ℕ) → Result Spot BadWord
part₁ r d k ws = part_after r.first d (record { value = 0; next = k }) ws

abbrev pub part₂ : Row → (depth next : ℕ) → List (List ℕ) → Result Spot BadWord
part₂ r d k ws = next_part r.second d (part₁ r d k ws) ws

abbrev pub part₃ : Row → (depth next : ℕ) → List (List ℕ) → Result Spot BadWord
part₃ r d k ws = next_part r.third d (part₂ r d k ws) ws

abbrev pub part₄ : Row → (depth next : ℕ) → List (List ℕ) → Result Spot BadWord
part₄ r d k ws = next_part r.fourth d (part₃ r d k ws) ws

-- where the line ends, with room for so many bytes of HEX and so many values
abbrev pub end_from : End → (hex_room value_room : ℕ) → Result Spot BadWord → List (List ℕ) → Result ℕ BadWord
end_from e h v (Ok s) ws = end_after e h v s.next ws
end_from e h v (Err k) ws = Err k

abbrev pub row_end : Row → (depth hex_room value_room next : ℕ) → List (List ℕ) → Result ℕ BadWord
row_end r d h v k ws = end_from r.end h v (part₄ r d k ws) ws

abbrev pub value_of : Result Spot BadWord → ℕ
value_of (Ok s) = s.value
value_of (Err k) = 0

-- the numbers of the parts, and how many bytes or values end them, or the word that cannot be read
abbrev pub parts_of : (first second third fourth : Result Spot BadWord) → Result ℕ BadWord → Result Parts BadWord
parts_of a b c d (Ok n) = Ok (record { first = value_of a; second = value_of b; third = value_of c; fourth = value_of d; count = n })
parts_of a b c d (Err k) = Err k

-- what a line asks by a row, and what it leaves in the buffers of HEX, of tags and of bits: each as it was, where a part before the end
-- cannot be read
abbrev pub row_asked : Row → (depth hex_room value_room next : ℕ) → List (List ℕ) → Result Parts BadWord
row_asked r d h v k ws = parts_of (part₁ r d k ws) (part₂ r d k ws) (part₃ r d k ws) (part₄ r d k ws) (row_end r d h v k ws)

abbrev pub left_from : Result Spot BadWord → (ℕ → List ℕ → List ℕ) → List ℕ → List ℕ
left_from (Ok s) end before = end s.next before
left_from (Err k) end before = before

abbrev pub row_bytes : Row → (depth next : ℕ) → List (List ℕ) → List ℕ → List ℕ
row_bytes r d k ws before = left_from (part₄ r d k ws) (λ at. bytes_left r.end at ws) before

abbrev pub row_tags : Row → (depth value_room next : ℕ) → List (List ℕ) → List ℕ → List ℕ
row_tags r d v k ws before = left_from (part₄ r d k ws) (λ at. tags_left r.end v at ws) before

abbrev pub row_bits : Row → (depth value_room next : ℕ) → List (List ℕ) → List ℕ → List ℕ
row_bits r d v k ws before = left_from (part₄ r d k ws) (λ at. bits_left r.end v at ws) before

-- the answer, and what the three buffers hold afterwards
pub record Reads (row : Row) (depth next : ℕ) (ws : List (List ℕ)) (r : Result Parts BadWord) (bytes bytes' tags tags' values values' : List ℕ) : Type 0 where
  pub answer : r ≡ row_asked row depth (length bytes) (min (length tags) (length values)) next ws
  pub hexed : bytes' ≡ row_bytes row depth next ws bytes
  pub kinds : tags' ≡ row_tags row depth (min (length tags) (length values)) next ws tags
  pub said : values' ≡ row_bits row depth (min (length tags) (length values)) next ws values

-- ---- a line of the console: its name, and then the parts of that command

abbrev pub with_command : Command → Result Parts BadWord → Result Asked BadWord
with_command c (Ok p) = Ok (record { command = c; parts = p })
with_command c (Err k) = Err k

abbrev pub named_asked : Name → (depth hex_room value_room : ℕ) → List (List ℕ) → Result Asked BadWord
named_asked (Ok (c, k)) d h v ws = with_command c (row_asked (row_of c) d h v k ws)
named_asked (Err e) d h v ws = Err e

-- where no command is named, the buffers stay as they were
abbrev pub named_left : Name → (Row → ℕ → List ℕ → List ℕ) → List ℕ → List ℕ
named_left (Ok (c, k)) left before = left (row_of c) k before
named_left (Err e) left before = before

abbrev pub line_asked : (depth hex_room value_room : ℕ) → List (List ℕ) → Result Asked BadWord
line_asked d h v ws = named_asked (name_read ws) d h v ws

abbrev pub line_bytes : (depth : ℕ) → List (List ℕ) → List ℕ → List ℕ
line_bytes d ws before = named_left (name_read ws) (λ r k. row_bytes r d k ws) before

abbrev pub line_tags : (depth value_room : ℕ) → List (List ℕ) → List ℕ → List ℕ
line_tags d v ws before = named_left (name_read ws) (λ r k. row_tags r d v k ws) before

abbrev pub line_bits : (depth value_room : ℕ) → List (List ℕ) → List ℕ → List ℕ
line_bits d v ws before = named_left (name_read ws) (λ r k. row_bits r d v k ws) before

pub record LineReads (depth : ℕ) (ws : List (List ℕ)) (r : Result Asked BadWord) (bytes bytes' tags tags' values values' : List ℕ) : Type 0 where
  pub answer : r ≡ line_asked depth (length bytes) (min (length tags) (length values)) ws
  pub hexed : bytes' ≡ line_bytes depth ws bytes
  pub kinds : tags' ≡ line_tags depth (min (length tags) (length values)) ws tags
  pub said : values' ≡ line_bits depth (min (length tags) (length values)) ws values

-- ---- a start line

abbrev pub StartReads : (ws : List (List ℕ)) (r : Result Parts BadWord) (bytes bytes' tags tags' values values' : List ℕ) → Type 0
StartReads ws = Reads start_row 0 0 ws
