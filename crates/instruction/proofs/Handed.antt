-- A value where a pointer is asked for: by cases of what its tag and bits are, or of why there is no value.
use Rattle.std.specs.Prelude.{Result, Ok, Err}
use Prim.Native.Nat.{ℕ}
use mathlib.Core.Bool.{false}
use mathlib.Core.Path.{◌≡◌, refl, ap}
use Rattle.value.specs.declared.refusal.Refusal.{Refusal}
use Rattle.value.specs.Refusal.{wrong_kinds}
use Rattle.value.specs.Answer.{ok, refused, need, ◌>>=◌}
use Rattle.value.specs.Value.{value, same, tag, pointer}
use Rattle.value.specs.Ir.{value_of, computed}
use Rattle.value.specs.declared.IrValue.{IrValue}
use Rattle.value.specs.declared.IrValue.TheVariants as ir
use Rattle.instruction.specs.Code.{either}
use Rattle.instruction.specs.Compute.{answer_of}
use Rattle.instruction.specs.Storage.{as_pointer_of, number_in}
use Rattle.instruction.specs.declared.variables.Found.{Found}
use Rattle.instruction.proofs.Computed.{valued, unvalued}

-- a value of another kind
pub other_kind : (w : IrValue) → ((p : ℕ) → w ≡ ir.Pointer p → ⊥) → same (value_of w).kind pointer ≡ false
unfolding value_of tag
other_kind (ir.Bool b) n = refl
other_kind (ir.U8 a) n = refl
other_kind (ir.U16 a) n = refl
other_kind (ir.U32 a) n = refl
other_kind (ir.U64 a) n = refl
other_kind (ir.I8 a) n = refl
other_kind (ir.I16 a) n = refl
other_kind (ir.I32 a) n = refl
other_kind (ir.I64 a) n = refl
other_kind (ir.F32 a) n = refl
other_kind (ir.F64 a) n = refl
other_kind (ir.Char a) n = refl
other_kind (ir.Asn a) n = refl
other_kind (ir.Pointer p) n = absurd (n p refl)

module _ (v : Found) where
  pub pointer_unsound : (n : Refusal) → computed (answer_of (Ok v)) ≡ Err n → as_pointer_of (Ok v) ≡ refused n
  unfolding as_pointer_of ◌>>=◌
  pointer_unsound n e = rw (unvalued v n e) refl

  -- by what is made of the tag and bits
  pub pointer_from : number_in (as_pointer_of (Ok v)) ≡ either (computed (answer_of (Ok v))) (λ n. Err n) (λ w. number_in (need (same (value_of w).kind pointer) wrong_kinds (ok (value_of w))))
  unfolding as_pointer_of ◌>>=◌
  pointer_from = go (computed (answer_of (Ok v))) refl
    where
      go : (r : Result IrValue Refusal) → computed (answer_of (Ok v)) ≡ r → number_in (as_pointer_of (Ok v)) ≡ either r (λ n. Err n) (λ w. number_in (need (same (value_of w).kind pointer) wrong_kinds (ok (value_of w))))
      go (Ok w) e = rw (valued v w e) refl
      go (Err n) e = ap number_in (pointer_unsound n e)

  pub no_pointer : (w : IrValue) → ((p : ℕ) → w ≡ ir.Pointer p → ⊥) → computed (answer_of (Ok v)) ≡ Ok w → as_pointer_of (Ok v) ≡ refused wrong_kinds
  unfolding as_pointer_of ◌>>=◌ need
  no_pointer w n e = rw (valued v w e, other_kind w n) refl

  pub pointer_is : (p : ℕ) → computed (answer_of (Ok v)) ≡ Ok (ir.Pointer p) → as_pointer_of (Ok v) ≡ ok (value pointer p)
  unfolding as_pointer_of ◌>>=◌ need value_of tag
  pointer_is p e = rw (valued v (ir.Pointer p) e) refl

-- an operand that has no value is no pointer
pub not_evaluated : (n : Refusal) → as_pointer_of (Err n) ≡ refused n
unfolding as_pointer_of answer_of ◌>>=◌
not_evaluated n = refl

pub ruleset asked = (pointer_from, other_kind, not_evaluated)
