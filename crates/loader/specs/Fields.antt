-- The fields that the loader reads: of what it holds, and by a closure.
use Rattle.std.specs.Prelude.{ℕ, List, ◌≡◌, Result}
use Rattle.image.specs.Parse.{Field}
use Rattle.image.specs.Image.{Counts}
use Rattle.image.specs.declared.number.Stop.{Stop}
use Rattle.loader.specs.declared.fields.Fields.{Fields}
use Rattle.loader.specs.Counts.{counts_of}

-- a kind of field, of the image and the counts that are held
abbrev pub field_of : {A : Type 0} → Fields → (List ℕ → Counts → Field A) → Field A
field_of fields kind = kind fields.image.now (counts_of fields.counts)

-- whatever a call answers is where the field ends
abbrev pub Ends : (call : ℕ → Result ℕ Stop → Type 0) → (ends : ℕ → Result ℕ Stop) → Type 0
Ends call ends = (at : ℕ) (r : Result ℕ Stop) → call at r → r ≡ ends at
