-- "Words are parted by exactly one space; a line ends with LF, the last one may end with the input."
use Rattle.std.specs.Prelude.{ℕ, zero, suc, ◌+◌, ◌-◌, ◌≤◌, ◌≡◌, List, [], ◌∷◌, length, take, drop, eqb}
use Rattle.value.specs.Answer.{pick}

-- how many bytes stand before the first b: all of them where there is none
unfoldable pub until : ℕ → List ℕ → ℕ
until b [] = 0
until b (x ∷ xs) =
    let more = until b xs in
    pick (eqb x b) 0 (suc more)

-- a byte in front of the first part; a part of its own where there is none
abbrev pub onto : ℕ → List (List ℕ) → List (List ℕ)
onto x [] = (x ∷ []) ∷ []
onto x (p ∷ ps) = (x ∷ p) ∷ ps

-- the parts of a text between bytes b, where no byte at the end makes these parts
unfoldable pub parts : (b : ℕ) → List (List ℕ) → List ℕ → List (List ℕ)
parts b last [] = last
parts b last (x ∷ xs) =
    let more = parts b last xs in
    pick (eqb x b) ([] ∷ more) (onto x more)

-- the words of a line. An empty line is one empty word, and so stands one between two spaces: neither can be read as anything
unfoldable pub words : List ℕ → List (List ℕ)
words line = parts 32 ([] ∷ []) line

-- the lines of an input: nothing after the last LF is no line
unfoldable pub lines : List ℕ → List (List ℕ)
lines input = parts 10 [] input

-- where a word stands in its line: from its first byte to the place after its last
pub record Span : Type 0 where
  pub from : ℕ
  pub to : ℕ

-- where the word at k stands, counted from 0, in words from `at` on, each with one space after it; nowhere is 0 to 0
unfoldable pub span_from : (at : ℕ) → List (List ℕ) → ℕ → Span
span_from at [] k = record { from = 0; to = 0 }
span_from at (w ∷ ws) zero = record { from = at; to = at + length w }
span_from at (w ∷ ws) (suc k) = span_from (at + length w + 1) ws k

unfoldable pub word_at : List ℕ → ℕ → Span
unfolding span_from
word_at line k = span_from 0 (words line) k

-- these bytes stand from one place to another
pub record Stands (line : List ℕ) (from to : ℕ) (bytes : List ℕ) : Type 0 where
  pub ordered : from ≤ to
  pub within : to ≤ length line
  pub are : take (to - from) (drop from line) ≡ bytes
