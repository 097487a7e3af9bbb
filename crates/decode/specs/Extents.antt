-- Where the bytes of an image's constants stand: of each its start and its length, as the loader's places lead to them.
use Rattle.std.specs.Prelude.{ℕ, List, [], ◌∷◌, ◌++◌, take}
use Rattle.image.specs.Parse.{Got, took, refused}
use Rattle.image.specs.Number.{number}
use Rattle.loader.specs.Tables.{tables_from}

-- "Constant: length, raw bytes": the bytes start after the length
abbrev pub extent : Got ℕ → List ℕ
extent (took count start) = start ∷ count ∷ []
extent (refused number place) = 0 ∷ 0 ∷ []

-- of the constants at these places
unfoldable pub extents_at : (s places : List ℕ) → List ℕ
extents_at s [] = []
extents_at s (at ∷ places) = extent (number s at) ++ extents_at s places

-- the places of an image's constants
abbrev pub places_of : List ℕ → List ℕ
places_of s = take (tables_from s).counts.constants (tables_from s).constants

abbrev pub extents_of : List ℕ → List ℕ
extents_of s = extents_at s (places_of s)
