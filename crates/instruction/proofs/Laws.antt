-- How a Switch's branches are gone through, one after another.
use Prim.Native.Nat.{ℕ, zero, suc, ◌-◌, ◌<◌}
use native.Mathlib.Numerals.{sub-one}
use native.Mathlib.Omega.{arith}
use mathlib.Core.Path.{◌≡◌, refl}
use mathlib.Core.List.{List}
use borrow.Author.Tests.{eq-eqb, ne_eqb}
use Rattle.instruction.specs.Decode.{field_at}
use Rattle.instruction.specs.Code.{branch_of}
use Rattle.instruction.specs.declared.field.Field.{Field}

-- ---- branches, one after another

module _ (s : List ℕ) (bits at : ℕ) (k l : Field) (e : k ≡ field_at s at) (f : l ≡ field_at s k.next) where
  pub branch-hit : (n : ℕ) → 0 < n → k.value ≡ bits → branch_of s n bits at ≡ l
  unfolding branch_of
  branch-hit zero p h = absurd (omega arith)
  branch-hit (suc n) p h = simp (← e, ← f, eq-eqb _ _ h)

  pub branch_on : (n : ℕ) → 0 < n → (k.value ≡ bits → ⊥) → branch_of s n bits at ≡ branch_of s (n - 1) bits l.next
  unfolding branch_of
  branch_on zero p h = absurd (omega arith)
  branch_on (suc n) p h = simp (← e, ← f, ne_eqb _ _ h, sub-one)

pub branch-none : (s : List ℕ) (bits at n : ℕ) → n ≡ 0 → branch_of s n bits at ≡ field_at s at
unfolding branch_of
branch-none s bits at zero e = refl
branch-none s bits at (suc n) e = absurd (omega arith)

pub ruleset branches = (branch-hit, branch_on, branch-none)
