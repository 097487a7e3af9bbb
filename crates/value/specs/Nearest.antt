-- "rounded once to nearest, ties to even", said of a pattern with no formula for it. Whole numbers alone: magnitudes are in units of the format's smallest value, 2 ^ -low.
use Rattle.std.specs.Prelude.{◌≡◌, ◌≢◌, ◌↔◌, ℕ, suc, ◌+◌, ◌-◌, ◌*◌, ◌/◌, ◌%◌, ◌^◌, ◌<◌, ◌≤◌, leb}
use Rattle.std.specs.Float.{Format}
use Rattle.std.specs.Float.Ieee.{emax, low, hid, ones, top, unlike}
use Rattle.value.specs.Divide.{count, signed, divide_bits}

-- the infinity with no sign: the finite patterns with no sign are those below it, and the greatest is the one before it
abbrev pub infinity : Format → ℕ
infinity f = ones f * hid f

-- what a finite pattern stands for, its sign left aside
abbrev pub magnitude : Format → ℕ → ℕ
magnitude f p = count f (p % top f / hid f) (p % hid f)

-- how far two numbers are apart
abbrev pub apart : ℕ → ℕ → ℕ
apart a b = (a - b) + (b - a)

-- how far a finite pattern is from num / den, times den
abbrev pub distance : Format → (num den p : ℕ) → ℕ
distance f num den p = apart (magnitude f p * den) (num * 2 ^ low f)

-- the power of two next above the finite values, 2 ^ (emax + 1)
abbrev pub limit : Format → ℕ
limit f = 2 ^ (low f + suc (emax f))

-- num / den is at or above the middle of the greatest finite value and that power
abbrev pub Overflows : Format → (num den : ℕ) → Type 0
Overflows f num den = (magnitude f (infinity f - 1) + limit f) * den ≤ 2 * (num * 2 ^ low f)

-- r is num / den rounded: the infinity exactly where it overflows; else no finite pattern is nearer, and where another is as near, the last bit of r is 0
pub record Rounded (f : Format) (num den r : ℕ) : Type 0 where
  pub pattern : r ≤ infinity f
  pub infinite : (r ≡ infinity f) ↔ Overflows f num den
  pub nearest : r < infinity f → (p : ℕ) → p < infinity f → distance f num den r ≤ distance f num den p
  pub even : r < infinity f → (p : ℕ) → p < infinity f → p ≢ r → distance f num den p ≡ distance f num den r → r % 2 ≡ 0

-- FDiv of two finite patterns, the second not zero: its sign is that of a quotient, and the rest is the quotient of the magnitudes, rounded
abbrev pub DividesToNearest : Type 0
DividesToNearest =
    (f : Format) (a b : ℕ) → a % top f < infinity f → b % top f < infinity f → 0 < magnitude f b
    → (r : ℕ) × (divide_bits f a b ≡ signed f (unlike (leb (top f) a) (leb (top f) b)) r) × Rounded f (magnitude f a) (magnitude f b) r
