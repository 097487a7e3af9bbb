-- The room that a text takes.
use Rattle.std.specs.Prelude.{ℕ, ◌+◌, ◌≡◌, Some, List, [], ◌∷◌, length}
use Rattle.words.specs.Text.{text, puts}

-- how many bytes pieces have
abbrev pub size : List (List ℕ) → ℕ
size [] = 0
size (p ∷ ps) = length p + size ps

-- pieces have room in a buffer: from its start on they are put to the last, and end where their bytes do
abbrev pub HasRoom : List (List ℕ) → (out : List ℕ) → Type 0
HasRoom ps out = (puts ps (text (Some 0) out)).place ≡ Some (size ps)
