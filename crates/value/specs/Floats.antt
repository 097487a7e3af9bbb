-- The floats of the IR: a number, or a NaN kept to the bit.
use Rattle.std.specs.Prelude.{ℕ, cond}
use Rattle.std.specs.Float.{binary32, binary64}
use Rattle.std.specs.Float.Ieee.{to_bits, of_bits, nan_bits}
use Rattle.value.specs.declared.Single.{Single}
use Rattle.value.specs.declared.Double.{Double}
use Rattle.value.specs.declared.Single.TheVariants as S
use Rattle.value.specs.declared.Double.TheVariants as D

-- the pattern of a float
abbrev pub bits32 : Single → ℕ
bits32 (S.Number x) = to_bits binary32 x
bits32 (S.Nan b) = b

abbrev pub bits64 : Double → ℕ
bits64 (D.Number x) = to_bits binary64 x
bits64 (D.Nan b) = b

-- the float of a pattern: a NaN's is kept as it is
abbrev pub single : ℕ → Single
single b = cond (nan_bits binary32 b) (S.Nan b) (S.Number (of_bits binary32 b))

abbrev pub double : ℕ → Double
double b = cond (nan_bits binary64 b) (D.Nan b) (D.Number (of_bits binary64 b))
