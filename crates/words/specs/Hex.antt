-- "HEX is pairs of hex digits, either case read, lower case written, `-` for no bytes."
use Rattle.std.specs.Prelude.{ℕ, ◌+◌, ◌-◌, ◌*◌, ◌/◌, ◌%◌, Bool, true, ◌&&◌, ◌||◌, Result, Ok, Err, List, [], ◌∷◌, length, get_or, ltb, leb, eqb}
use Rattle.std.proofs.lemmas.List.Edits.{sets}
use Rattle.value.specs.Answer.{pick}
use Rattle.words.specs.declared.HexError.{HexError}
use Rattle.words.specs.declared.HexError.TheVariants.{Long, Bad}

-- ---- reading

abbrev pub between : ℕ → ℕ → ℕ → Bool
between low high b = leb low b && leb b high

-- '0' to '9', 'a' to 'f', 'A' to 'F'
unfoldable pub is_hex_digit : ℕ → Bool
is_hex_digit b = between 48 57 b || (between 97 102 b || between 65 70 b)

-- what a hex digit says, in either case
unfoldable pub nibble : ℕ → ℕ
nibble b = pick (between 48 57 b) (b - 48) (pick (between 97 102 b) (b - 87) (pick (between 65 70 b) (b - 55) 0))

unfoldable pub all_hex : List ℕ → Bool
all_hex [] = true
all_hex (b ∷ bs) = is_hex_digit b && all_hex bs

-- a word of HEX: `-`, or hex digits in pairs, one pair at least
unfoldable pub is_hex : List ℕ → Bool
is_hex w = pick (eqb (length w) 1) (eqb (get_or w 0 0) 45) (ltb 0 (length w) && (eqb (length w % 2) 0 && all_hex w))

-- the bytes that pairs of digits say; a digit without a second one says none
unfoldable pub bytes_said : List ℕ → List ℕ
bytes_said [] = []
bytes_said (a ∷ []) = []
bytes_said (a ∷ b ∷ w) = (nibble a * 16 + nibble b) ∷ bytes_said w

-- what reading a word into a buffer of so many bytes answers, and what it leaves there
unfoldable pub hex_answer : List ℕ → (room : ℕ) → Result ℕ HexError
hex_answer w room = pick (is_hex w) (pick (leb (length (bytes_said w)) room) (Ok (length (bytes_said w))) (Err Long)) (Err Bad)

unfoldable pub hex_buffer : List ℕ → List ℕ → List ℕ
hex_buffer w before = pick (is_hex w && leb (length (bytes_said w)) (length before)) (sets before 0 (bytes_said w)) before

-- ---- writing

-- a digit below 16, in lower case
abbrev pub glyph : ℕ → ℕ
glyph d = pick (ltb d 10) (48 + d) (87 + d)

unfoldable pub pairs_of : List ℕ → List ℕ
pairs_of [] = []
pairs_of (b ∷ bs) = glyph (b / 16) ∷ glyph (b % 16) ∷ pairs_of bs

unfoldable pub hex_of : List ℕ → List ℕ
unfolding pairs_of
hex_of [] = 45 ∷ []
hex_of (b ∷ bs) = pairs_of (b ∷ bs)
