-- Every case of `value_cases` comes out as the document says, and a tie of FDiv too: computed.
use mathlib.Core.Path.{◌≡◌, refl}
use lib.Dec.{T}
use lib.Ieee.{binary32, size as digits}
use Rattle.value.specs.Answer.{need, ◌>>=◌}
use Rattle.value.specs.Cases.{all_hold, same_answer, value_cases}
use Rattle.value.specs.Divide.{round_bits, quotient_bits, divide_bits}
use Rattle.value.specs.Value.{kind_of, tag, size, family, integer, bits_of, checked, operate, arithmetic, negated, has_equality, equality, compare_ints, le_number, from_bytes}

pub value_cases_hold : T (all_hold value_cases)
unfolding all_hold same_answer value_cases need ◌>>=◌ kind_of tag size family integer bits_of checked operate arithmetic negated has_equality equality compare_ints le_number from_bytes
value_cases_hold = tt

-- "ties to even": half of the smallest F32 is 0, and half of three times it is two times it
pub ties_to_even : (divide_bits binary32 0x0000_0001 0x4000_0000 ≡ 0) × (divide_bits binary32 0x0000_0003 0x4000_0000 ≡ 2)
unfolding divide_bits quotient_bits round_bits digits
ties_to_even = (refl, refl)
