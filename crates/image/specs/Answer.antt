-- What the code's answers say, in the definition's words.
use Rattle.std.specs.Prelude.{ℕ, ◌+◌, Bool, true, false, List, ◌≡◌, length, leb}
use Rattle.std.specs.Prelude as Rust
use Rattle.std.specs.Prelude.{Result, Ok, Err, Some, None}
use Rattle.std.proofs.Math.Option.{Option, none, some}
use Rattle.std.proofs.lemmas.List.Edits.{sets}
use Rattle.value.specs.declared.refusal.Refusal.{Refusal}
use Rattle.value.specs.Answer.{pick}
use Rattle.value.specs.Tags.{type_at}
use Rattle.image.specs.Parse.{Got, took, refused, Field}
use Rattle.image.specs.declared.number.Stop.{Stop}

abbrev pub stop : Refusal → ℕ → Stop
stop why place = record { why = why; place = place }

abbrev pub got : Result (ℕ × ℕ) Stop → Got ℕ
got (Ok (v, next)) = took v next
got (Err e) = refused e.why e.place

-- the place after what was read
abbrev pub shape : {A : Type 0} → Got A → Result ℕ Stop
shape (took a next) = Ok next
shape (refused why place) = Err (stop why place)

-- a field where the one before it ended, whose refusal stays
abbrev pub after : {A : Type 0} → Result ℕ Stop → Field A → Got A
after (Ok at) p = p at
after (Err e) p = refused e.why e.place

-- the place after a field and all before it
abbrev pub walk : {A : Type 0} → Field A → Result ℕ Stop → Result ℕ Stop
walk p (Ok at) = shape (p at)
walk p (Err e) = Err e

-- a field of which only its end is known
abbrev pub ending : (ℕ → Result ℕ Stop) → Field Unit
ending ends at = after (ends at) (λ next. took tt next)

abbrev pub is_some : {A : Type 0} → Option A → Bool
is_some none = false
is_some (some a) = true

-- a tag that is a type's
unfoldable pub is_type : ℕ → Bool
is_type v = is_some (type_at v)

-- bytes stored from `start` on and the place after them, where they have room; else nothing
pub record Stored (bytes : List ℕ) (start : ℕ) (before : List ℕ) (r : Rust.Option ℕ) (after : List ℕ) : Type 0 where
  pub answer : r ≡ pick (leb (start + length bytes) (length before)) (Some (start + length bytes)) None
  pub buffer : after ≡ pick (leb (start + length bytes) (length before)) (sets before start bytes) before
