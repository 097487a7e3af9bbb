-- A text as it grows in a buffer: piece by piece, each where the one before it ends, and no more once a piece had no room.
use Rattle.std.specs.Prelude.{ℕ, ◌+◌, Option, Some, None, List, [], ◌∷◌, length, leb}
use Rattle.std.proofs.lemmas.List.Edits.{sets}
use Rattle.value.specs.Answer.{pick}

pub record Text : Type 0 where
  pub place : Option ℕ
  pub bytes : List ℕ

abbrev pub text : Option ℕ → List ℕ → Text
text w bs = record { place = w; bytes = bs }

-- the place after a piece of so many bytes, in a buffer of so many; no place where it would end beyond the buffer
abbrev pub placed : (count : ℕ) → Option ℕ → (room : ℕ) → Option ℕ
placed count None room = None
placed count (Some from) room = pick (leb (from + count) room) (Some (from + count)) None

-- the buffer after a piece: its bytes from the place on where it has room, else as it was
abbrev pub stored : List ℕ → Option ℕ → List ℕ → List ℕ
stored piece None bs = bs
stored piece (Some from) bs = pick (leb (from + length piece) (length bs)) (sets bs from piece) bs

-- one piece more
unfoldable pub put : List ℕ → Text → Text
put piece t = text (placed (length piece) t.place (length t.bytes)) (stored piece t.place t.bytes)

-- pieces, one after the other
abbrev pub puts : List (List ℕ) → Text → Text
puts [] t = t
puts (p ∷ ps) t = puts ps (put p t)
