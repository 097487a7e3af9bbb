-- Where fields stand in an image, the step reads them again: each piece is a number that is found at its place, and the next begins where it ends.
use Prim.Native.Nat.{ℕ, ◌<◌}
use native.Mathlib.Omega.{arith}
use mathlib.Core.Path.{◌≡◌}
use mathlib.Core.List.{List, ◌∷◌, ◌++◌}
use Rattle.value.specs.Value.{tag}
use Rattle.image.specs.Parse.{took}
use Rattle.image.specs.Number.{number}
use Rattle.image.specs.Program.{Operand, variable, literal}
use Rattle.image.specs.Written.{Piece, num}
use Rattle.image.specs.Written as W
use Rattle.image.specs.Standing.{Stand}
use Rattle.instruction.specs.Decode.{field, field_at, operand_at}
use Rattle.image.proofs.Standing.{forward}
use Rattle.instruction.proofs.Decoded.{field-took, as_read}

module _ (s : List ℕ) where
  -- a number is read, and then the rest stands
  pub field-stands : (at v : ℕ) (ps : List Piece) (e : ℕ) → 0 < at → Stand s at (num v ∷ ps) e
      → (next : ℕ) × (field_at s at ≡ field v next) × (0 < next) × Stand s next ps e
  field-stands at v ps e l (next, e₁, rest) = (next, field-took s at v next l e₁, omega (arith, forward s at v next e₁), rest)

  two-read : (at t m b next : ℕ) → 0 < at → number s at ≡ took t m → number s m ≡ took b next → operand_at s at ≡ record { tag = t; bits = b; next = next }
  unfolding operand_at
  two-read at t m b next l e d =
      let after : 0 < m = omega (arith, forward s at t m e) in
      rw (field-took s at t m l e, field-took s m b next after d)

  past : (at t m b next : ℕ) → number s at ≡ took t m → number s m ≡ took b next → 0 < next
  past at t m b next e d = omega (arith, forward s at t m e, forward s m b next d)

  -- an operand is read, and then the rest stands
  pub operand-stands : (at : ℕ) (x : Operand) (ps : List Piece) (e : ℕ) → 0 < at → Stand s at (W.operand x ++ ps) e
      → (next : ℕ) × (operand_at s at ≡ as_read x next) × (0 < next) × Stand s next ps e
  operand-stands at (variable x) ps e l (m, e₁, (next, e₂, rest)) = (next, two-read at 0 m x next l e₁ e₂, past at 0 m x next e₁ e₂, rest)
  operand-stands at (literal v) ps e l (m, e₁, (next, e₂, rest)) =
      (next, two-read at (tag v.kind) m v.bits next l e₁ e₂, past at (tag v.kind) m v.bits next e₁ e₂, rest)

  -- an operand that is the last
  pub operand-last : (at : ℕ) (x : Operand) (e : ℕ) → 0 < at → Stand s at (W.operand x) e → (next : ℕ) × (operand_at s at ≡ as_read x next) × (0 < next)
  operand-last at (variable x) e l (m, e₁, (next, e₂, rest)) = (next, two-read at 0 m x next l e₁ e₂, past at 0 m x next e₁ e₂)
  operand-last at (literal v) e l (m, e₁, (next, e₂, rest)) =
      (next, two-read at (tag v.kind) m v.bits next l e₁ e₂, past at (tag v.kind) m v.bits next e₁ e₂)
