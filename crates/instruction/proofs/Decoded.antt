-- What the step reads again at a field's place is the number that the grammar took there; and an operand as it is read again.
use Prim.Native.Nat.{ℕ, ◌<◌}
use native.Mathlib.Omega.{arith}
use borrow.Author.Tests.{ne_eqb}
use mathlib.Core.Bool.{Bool, true, false}
use mathlib.Core.Path.{◌≡◌, refl, subst}
use mathlib.Core.List.{List}
use Rattle.value.specs.declared.refusal.Refusal.{Refusal}
use Rattle.value.specs.Answer.{pick}
use Rattle.value.specs.Value.{tag}
use Rattle.image.specs.Parse.{Got, took, refused, and_then}
use Rattle.image.specs.Number.{number}
use Rattle.image.specs.Fields.{such}
use Rattle.image.specs.Program.{Operand, variable, literal}
use Rattle.image.proofs.Parts.{same-value}
use Rattle.instruction.specs.Decode.{field, field_at}
use Rattle.instruction.specs.declared.field.Operand as code

-- ---- numbers

no_took : {A : Type 0} {k : Refusal} {p n : ℕ} {a : A} → refused k p ≡ took a n → ⊥
no_took e = let z : ◌≡◌ {A = ℕ} 0 1 = cc in omega arith

pub field-took : (s : List ℕ) (at v next : ℕ) → 0 < at → number s at ≡ took v next → field_at s at ≡ field v next
unfolding field_at
field-took s at v next l e = rw (ne_eqb at 0 (λ z. omega arith), e)

-- ---- fields

pub such-took : (s : List ℕ) (test : ℕ → Bool) (why : Refusal) (at v next : ℕ) → such s test why at ≡ took v next → (number s at ≡ took v next) × (test v ≡ true)
unfolding such and_then
such-took s test why at v next e = go (number s at) e
  where
    choose : (w n : ℕ) (b : Bool) → test w ≡ b → pick b (took w n) (refused why at) ≡ took v next → (took w n ≡ took v next) × (test v ≡ true)
    choose w n true t d = (d, subst (λ (x : ℕ). test x ≡ true) (same-value d) t)
    choose w n false t d = absurd (no_took d)

    go : (g : Got ℕ) → and_then g (λ w n. pick (test w) (took w n) (refused why at)) ≡ took v next → (g ≡ took v next) × (test v ≡ true)
    go (took w n) d = choose w n (test w) refl d
    go (refused k p) d = absurd (no_took d)

-- ---- operands

-- an operand as it is read again
abbrev pub as_read : Operand → (next : ℕ) → code.Operand
as_read (variable x) next = record { tag = 0; bits = x; next = next }
as_read (literal v) next = record { tag = tag v.kind; bits = v.bits; next = next }
