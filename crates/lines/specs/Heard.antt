-- The lines that a reader of parts hears, each cut at the buffer's length.
use Rattle.std.specs.Prelude.{ℕ, List, [], ◌∷◌, ◌++◌, take, eqb}
use Rattle.value.specs.Answer.{pick}

-- the lines that end in a part, and what is kept of the next
pub record Taken : Type 0 where
  pub lines : List (List ℕ)
  pub kept : List ℕ

abbrev pub no_line : List ℕ → Taken
no_line k = record { lines = []; kept = k }

abbrev pub and_then : List ℕ → Taken → Taken
and_then l t = record { lines = l ∷ t.lines; kept = t.kept }

-- byte by byte: LF ends the line; another byte is kept where it has room
unfoldable pub taken : (room : ℕ) → (kept part : List ℕ) → Taken
taken room kept [] = no_line kept
taken room kept (b ∷ part) =
    let next = taken room [] part in
    let more = taken room (take room (kept ++ (b ∷ []))) part in
    pick (eqb b 10) (and_then kept next) more

-- "the last one may end with the input"
abbrev pub last_line : List ℕ → List (List ℕ)
last_line [] = []
last_line (b ∷ k) = (b ∷ k) ∷ []

-- one part after another, and the input's end
unfoldable pub heard : (room : ℕ) → (kept : List ℕ) → (parts : List (List ℕ)) → List (List ℕ)
heard room kept [] = last_line kept
heard room kept (p ∷ ps) = (taken room kept p).lines ++ heard room (taken room kept p).kept ps
