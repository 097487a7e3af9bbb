-- Two answers that a contract allows are equal.
use Rattle.std.specs.Prelude.{Result, Ok, Err}
use Rattle.std.specs.Prelude as Rust
use Prim.Native.Nat.{ℕ}
use mathlib.Core.List.{List}
use mathlib.Core.Path.{◌≡◌, refl, sym, ap, ◌∙◌}
use Rattle.image.specs.Parse.{Got, took, refused}
use Rattle.image.specs.Answer.{got, stop, Stored}
use Rattle.image.specs.declared.number.Stop.{Stop}

abbrev number_of : Got ℕ → Result (ℕ × ℕ) Stop
number_of (took v next) = Ok (v, next)
number_of (refused why place) = Err (stop why place)

number-back : (a : Result (ℕ × ℕ) Stop) → number_of (got a) ≡ a
number-back (Ok (v, next)) = refl
number-back (Err e) = refl

-- an answer that is a number is settled by what it says
pub one_number : (a b : Result (ℕ × ℕ) Stop) → got a ≡ got b → a ≡ b
one_number a b e = sym (number-back a) ∙ ap number_of e ∙ number-back b

-- so are an answer and a buffer that bytes were stored in
pub one-stored : (x : List ℕ) (start : ℕ) (before : List ℕ) (r r' : Rust.Option ℕ) (after after' : List ℕ) → Stored x start before r after → Stored x start before r' after'
    → (r ≡ r') × (after ≡ after')
one-stored x start before r r' after after' h k = (h.answer ∙ sym k.answer, h.buffer ∙ sym k.buffer)
