-- Two answers that a contract allows are equal. A contract that is an equation, or two of them, is value's `settled`; the others speak of a text,
-- or of the values of a line and their two tables.
use Prim.Native.Nat.{ℕ}
use mathlib.Core.Path.{◌≡◌, sym, ap, ◌∙◌}
use mathlib.Core.List.{List}
use Rattle.std.specs.Prelude.{Option}
use Rattle.words.specs.Text.{Text, text}
use Rattle.words.specs.Pairs.{Values, Said, Stored}

pub written : {t : Text} {r s : Option ℕ} {out out' : List ℕ} → text r out ≡ t → text s out' ≡ t → (r ≡ s) × (out ≡ out')
written e f = (ap (λ (t : Text). t.place) (e ∙ sym f), ap (λ (t : Text). t.bytes) (e ∙ sym f))

pub values : {said : Said} {r s : Values} {tags₀ tags tags' bits₀ bits bits' : List ℕ} → Stored said r tags₀ tags bits₀ bits → Stored said s tags₀ tags' bits₀ bits'
    → (r ≡ s) × (tags ≡ tags') × (bits ≡ bits')
values e f = (e.answer ∙ sym f.answer, e.kinds ∙ sym f.kinds, e.values ∙ sym f.values)
