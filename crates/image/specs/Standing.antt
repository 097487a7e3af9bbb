-- Pieces that stand in an image: each is read at its place, and the next where it ends.
use Rattle.std.specs.Prelude.{ℕ, ◌<◌, List, [], ◌∷◌, ◌≡◌, length}
use Rattle.image.specs.Parse.{took}
use Rattle.image.specs.Number.{number}
use Rattle.image.specs.Fields as Fields
use Rattle.image.specs.Written.{Piece, num, raw}

-- the pieces stand from `at` to `end`
abbrev pub Stand : (s : List ℕ) (at : ℕ) → List Piece → (end : ℕ) → Type 0
Stand s at [] end = at ≡ end
Stand s at (num v ∷ ps) end = (next : ℕ) × (number s at ≡ took v next) × Stand s next ps end
Stand s at (raw bs ∷ ps) end = (next : ℕ) × (Fields.raw s (length bs) at ≡ took bs next) × Stand s next ps end

-- the pieces stand from `at` on, which is past the image's first byte: the version is there, and a step's field has place 0 where it was refused
pub record Stands (s : List ℕ) (at : ℕ) (ps : List Piece) : Type 0 where
  pub past : 0 < at
  pub end : ℕ
  pub stand : Stand s at ps end
