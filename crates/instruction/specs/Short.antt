-- What the short ways of the code are given.
use Rattle.std.specs.Prelude.{ℕ, ◌+◌, ◌*◌, ◌%◌, ◌≤◌, ◌<◌, List, ◌≡◌, length, get_or, Option, Some, None}
use Rattle.value.specs.Value.{size, tag}
use Rattle.value.specs.Value as Kinds
use Rattle.value.specs.Tags.{kind_at}
use Rattle.value.specs.Ir.{value_of}
use Rattle.value.specs.declared.IrValue.{IrValue}
use Rattle.value.specs.Ir.{made as made_of}

-- the tag of an unsigned kind, and the greatest number of the kind
pub data Unsigned : (tag top : ℕ) → Type 0 where
  u8 : Unsigned (tag Kinds.u8) 255
  u16 : Unsigned (tag Kinds.u16) 65535
  u32 : Unsigned (tag Kinds.u32) 4294967295
  u64 : Unsigned (tag Kinds.u64) 18446744073709551615

-- two numbers of one such kind
pub record Alike (tag top a b : ℕ) : Type 0 where
  pub kind : Unsigned tag top
  pub first : a ≤ top
  pub second : b ≤ top

-- nothing, or the value that a tag and bits are, which takes eight bytes
abbrev pub Word : (tag bits : ℕ) → Option IrValue → Type 0
Word tag bits None = Unit {0}
Word tag bits (Some v) = (made_of (kind_at tag) bits ≡ Some v) × (size (value_of v).kind ≡ 8)

-- n pairs of numbers of one byte, from this place on
pub record Pairs (s : List ℕ) (at n : ℕ) : Type 0 where
  pub some : at ≡ 0 → ⊥
  pub room : at + n * 2 ≤ length s
  pub low : (i : ℕ) → at ≤ i → i < at + n * 2 → get_or s i 0 < 128

-- what stands at the even places among n bytes from `start` on: the first of them with this number, or 255 where there is none
pub record First (s : List ℕ) (start n number first : ℕ) : Type 0 where
  pub least : (k : ℕ) → k < n → k % 2 ≡ 0 → get_or s (start + k) 0 ≡ number → first ≤ k
  pub within : (first ≡ 255 → ⊥) → first < n
  pub even : (first ≡ 255 → ⊥) → first % 2 ≡ 0
  pub hit : (first ≡ 255 → ⊥) → get_or s (start + first) 0 ≡ number
