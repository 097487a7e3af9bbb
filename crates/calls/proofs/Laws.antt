-- One turn of each loop that passes fields over: the laws that the proofs of the fields' functions share.
use Prim.Native.Nat.{ℕ, suc, ◌+◌, ◌-◌, ◌<◌, ◌≤◌}
use native.Mathlib.Omega.{arith}
use mathlib.Core.Path.{◌≡◌}
use mathlib.Core.List.{List}
use Rattle.instruction.specs.Decode.{field_at, operand_at}
use Rattle.calls.specs.Fields.{numbers_skipped, operands_skipped}

-- of n turns, one fewer is left after turn k
pub one_fewer : (n k : ℕ) → k < n → n - k ≡ suc (n - (k + 1))
one_fewer n k h = omega arith

pub none_left : (n k : ℕ) → n ≤ k → n - k ≡ 0
none_left n k h = omega arith

module _ (s : List ℕ) where
  -- ---- numbers and operands passed over

  pub number_passed : (n k at : ℕ) → k < n → numbers_skipped s (n - (k + 1)) (field_at s at).next ≡ numbers_skipped s (n - k) at
  unfolding numbers_skipped
  number_passed n k at h = rw (one_fewer n k h)

  pub numbers_passed : (n k at : ℕ) → n ≤ k → numbers_skipped s (n - k) at ≡ at
  unfolding numbers_skipped
  numbers_passed n k at h = rw (none_left n k h)

  pub operand_passed : (n k at : ℕ) → k < n → operands_skipped s (n - (k + 1)) (operand_at s at).next ≡ operands_skipped s (n - k) at
  unfolding operands_skipped
  operand_passed n k at h = rw (one_fewer n k h)

  pub operands_passed : (n k at : ℕ) → n ≤ k → operands_skipped s (n - k) at ≡ at
  unfolding operands_skipped
  operands_passed n k at h = rw (none_left n k h)
