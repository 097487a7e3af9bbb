-- `divide64`: the machine's quotient is the one by whole numbers.
use lib.Ieee.{binary64}
use Rattle.value.proofs.Fields.{divide_is}
use Rattle.operations.proofs.float.divide64.Goals as goal

pub returns : goal.returns
returns c = rw (c.from_bits.ensures, c.f64_to_bits_with_nan.ensures, c.f64_from_bits_with_nan.ensures, c.f64_from_bits_with_nan-2.ensures, c.to_bits.ensures, c.to_bits-2.ensures, divide_is binary64 _ _)
