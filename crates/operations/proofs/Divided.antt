-- FDiv by its cases: two floats of one width, two of other kinds.
use Rattle.std.specs.Prelude.{Ok, Err}
use mathlib.Core.Path.{◌≡◌, refl, ap, ◌∙◌}
use mathlib.Core.Bool as B
use mathlib.Core.Bool.{true, false, ◌&&◌}
use mathlib.Core.List.{[], ◌∷◌}
use denote.Enum.Declared.{tag_of}
use Prim.Native.Nat.{ℕ}
use lib.Dec.{T}
use lib.Ieee.{binary32, binary64}
use types.Run.{OneOf}
use Rattle.value.specs.Answer.{Answer, need}
use Rattle.value.specs.Divide.{divide_bits}
use Rattle.value.specs.Floats.{bits32, bits64, single, double}
use Rattle.value.specs.Ir.{value_of, ir_of, computed}
use Rattle.value.specs.Refusal.{wrong_kinds}
use Rattle.value.specs.Value.{Kind, Value, tag, same, family, is_float, divide_floats}
use Rattle.value.specs.declared.Single.{Single}
use Rattle.value.specs.declared.Double.{Double}
use Rattle.value.specs.declared.IrValue.{IrValue}
use Rattle.value.specs.declared.IrValue.TheVariants.{F32, F64}
use Rattle.value.specs.contracts.IrValue.{the_type}
use Rattle.value.proofs.Leftover.{rest, fails, left_over_lem}

refuses : (t : B.Bool) (a : Answer Value) → t ≡ false → Err wrong_kinds ≡ computed (need t wrong_kinds a)
unfolding need computed
refuses t a e = rw e

module _ (x y : IrValue) where
  -- x is of the kind k, and y is another variant than the j-th
  pub unlike : (k : Kind) (j : ℕ) → (value_of x).kind ≡ k → T (fails (same k) (rest (j ∷ []))) → OneOf (rest (j ∷ [])) (tag_of the_type y) → Err wrong_kinds ≡ computed (divide_floats (value_of x) (value_of y))
  unfolding divide_floats
  unlike k j e f o = refuses _ _ (ap (λ (t : B.Bool). t && is_float (family (value_of x).kind)) (ap (λ (l : Kind). same l (value_of y).kind) e ∙ left_over_lem (same k) (rest (j ∷ [])) y f o))

  -- x is no float
  pub no_floats : OneOf (rest (9 ∷ 10 ∷ [])) (tag_of the_type x) → Err wrong_kinds ≡ computed (divide_floats (value_of x) (value_of y))
  unfolding divide_floats family
  no_floats o = refuses _ _ (go (same (value_of x).kind (value_of y).kind) (left_over_lem (λ (k : Kind). is_float (family k)) (rest (9 ∷ 10 ∷ [])) x tt o))
    where
      go : (s : B.Bool) {t : B.Bool} → t ≡ false → (s && t) ≡ false
      go true e = e
      go false e = refl

pub quotient32 : {x y : IrValue} {a b r : Single} → x ≡ F32 a → y ≡ F32 b → r ≡ single (divide_bits binary32 (bits32 a) (bits32 b))
    → Ok (F32 r) ≡ computed (divide_floats (value_of x) (value_of y))
unfolding divide_floats value_of ir_of computed need tag family
quotient32 e f g = rw (e, f, g)

pub quotient64 : {x y : IrValue} {a b r : Double} → x ≡ F64 a → y ≡ F64 b → r ≡ double (divide_bits binary64 (bits64 a) (bits64 b))
    → Ok (F64 r) ≡ computed (divide_floats (value_of x) (value_of y))
unfolding divide_floats value_of ir_of computed need tag family
quotient64 e f g = rw (e, f, g)
